use Rattle.std.proofs.Common.{ℕ, ◌≡◌, sum, arith, sym, ne_eqb}
use Rattle.std.proofs.lemmas.List.Sums.{sum_by_more_le}
use Rattle.build.proofs.outlines.adds_up.Goals as goal

pub returns-then-left-n : goal.returns-then-left-n
returns-then-left-n c =
    let cs = c.args.counts.now in
    sym (ne_eqb _ _ (λ (e : sum cs ≡ c.args.total). omega (arith, sum_by_more_le (λ (x : ℕ). x) cs c.loop-count.count-index 0)))
