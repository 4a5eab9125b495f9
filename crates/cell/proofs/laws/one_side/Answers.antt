use Rattle.cell.proofs.Borders.{one-side, on-side, on-any-side}
use Rattle.cell.proofs.laws.one_side.Goals as goal

pub returns-clause-at_most : goal.returns-clause-at_most
returns-clause-at_most c a b i j s t p q = one-side a b i j s t (on-side s a b p) (on-side t a b q)

pub returns-clause-any_order : goal.returns-clause-any_order
returns-clause-any_order c = on-any-side
