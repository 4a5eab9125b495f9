use Rattle.std.proofs.Common.{ℕ, ◌<◌, ◌⊎◌, ⊎_elim, arith}
use Rattle.table.specs.Tables.{cells}
use Rattle.table.proofs.Cells.{length-table}
use Rattle.table.proofs.Wellformed.{formed-facts}
use Rattle.search.specs.Search.{Under}
use Rattle.search.specs.Around.{owes}
use Rattle.search.proofs.Least.{least-none, least-then, least-as}
use Rattle.search.proofs.Rooted.{Seen, seen_first, seen_next, seen_all, aside-owes, root-inside, root-few}
use Rattle.search.proofs.around.Around.least_due.Goals as goal

pub loop-root-init : goal.loop-root-init
loop-root-init c =
    let s = c.args.self.now in
    let t = cells s.table in
    let r = c.next_root-root.result in
    least-none (owes s c.args.difference) c.args.from (Seen t r) c.args.stop
    (λ b u f d. absurd (aside-owes _ t (formed-facts _ _ s.table.formed).cells c.args.difference s.cell
    (rw length-table s.inside) b (seen_first t s.cell r b c.next_root-root.ensures.passed u) d))

pub least_under-best-requires : goal.least_under-best-requires
least_under-best-requires c = root-inside c.args.self.now c.loop-root.root c.loop-root-test.true

pub overflow_add-root : goal.overflow_add-root
overflow_add-root c = omega (arith, root-few c.args.self.now c.loop-root.root c.loop-root-test.true)

pub loop-root-preserved : goal.loop-root-preserved
loop-root-preserved c =
    let s = c.args.self.now in
    let t = cells s.table in
    let l = c.loop-root in
    let r = c.next_root-root-in-loop-root.result in
    let g = c.least_under-best in
    let owed = owes s c.args.difference in
    least-as owed c.args.from (λ (b : ℕ). Seen t l.root b ⊎ Under t l.root b) (Seen t r) c.args.stop g.result
    (least-then owed c.args.from (Seen t l.root) (Under t l.root) c.args.stop l.best g.result l.invariant g.ensures)
    (λ b u d. ⊎_elim (λ v. v)
    (λ v. absurd (aside-owes _ t (formed-facts _ _ s.table.formed).cells c.args.difference s.cell
    (rw length-table s.inside) b v d))
    (seen_next t s.cell l.root r b c.next_root-root-in-loop-root.ensures.passed u))

pub returns : goal.returns
returns c =
    let s = c.args.self.now in
    let t = cells s.table in
    least-as (owes s c.args.difference) c.args.from (Seen t c.loop-root.root) (λ (b : ℕ). b < s.table.head.count) c.args.stop
    c.loop-root.best c.loop-root.invariant
    (λ b h d. seen_all _ t (formed-facts _ _ s.table.formed).cells s.roots.now.end c.loop-root.root s.indexed.below
    c.loop-root-test.false b (rw length-table h))
