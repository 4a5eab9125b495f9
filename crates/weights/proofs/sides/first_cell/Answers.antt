use Rattle.std.proofs.Common.{◌≡◌, ℕ, List, [], ◌∷◌, nat_eq, filter, slice_get, None, Some, subst}
use Rattle.std.specs.List.{starts_with}
use Rattle.weights.proofs.Pairs.{first_is}
use Rattle.weights.proofs.sides.first_cell.Goals as goal

pub returns-in_err-cell : goal.returns-in_err-cell
returns-in_err-cell c = λ cells S.
    let a = c.args in
    rw c.from_residual.ensures
    (first_is cells a.row.now S a.a a.b None
    (subst (λ (k : List ℕ). None ≡ slice_get (filter (λ e. starts_with nat_eq e k) a.row.now) 0) (λ t. c.min.ensures t ∷ c.max.ensures t ∷ []) c.in_err-cell.ensures))

pub returns : goal.returns
returns c = λ cells S.
    let a = c.args in
    first_is cells a.row.now S a.a a.b (Some c.in_ok-cell.field-0.now)
    (subst (λ (k : List ℕ). Some c.in_ok-cell.field-0.now ≡ slice_get (filter (λ e. starts_with nat_eq e k) a.row.now) 0) (λ t. c.min.ensures t ∷ c.max.ensures t ∷ []) c.in_ok-cell.ensures)
