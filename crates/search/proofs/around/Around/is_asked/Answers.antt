use Rattle.std.proofs.Common.{ℕ, ◌<◌, refl, ⊎_elim, arith}
use Rattle.table.specs.Tables.{cells}
use Rattle.table.proofs.Cells.{length-table}
use Rattle.table.proofs.Wellformed.{formed-facts}
use Rattle.search.specs.Around.{asks}
use Rattle.search.proofs.Found.{found_none, found_as}
use Rattle.search.proofs.Rooted.{Seen, seen_first, seen_next, seen_all, aside-asks, root-inside, root-few}
use Rattle.search.proofs.around.Around.is_asked.Goals as goal

pub loop-root-init : goal.loop-root-init
loop-root-init c =
    let s = c.args.self.now in
    let t = cells s.table in
    let r = c.next_root-root.result in
    found_none (asks s c.args.difference) c.args.stop (Seen t r)
    (λ b u l d. aside-asks _ t (formed-facts _ _ s.table.formed).cells c.args.difference s.cell
    (rw length-table s.inside) b (seen_first t s.cell r b c.next_root-root.ensures.passed u) d)

pub asked_under-requires : goal.asked_under-requires
asked_under-requires c = root-inside c.args.self.now c.loop-root.root c.loop-root-test.true

pub overflow_add-root : goal.overflow_add-root
overflow_add-root c = omega (arith, root-few c.args.self.now c.loop-root.root c.loop-root-test.true)

pub loop-root-preserved : goal.loop-root-preserved
loop-root-preserved c =
    let s = c.args.self.now in
    let t = cells s.table in
    let r = c.next_root-root-in-loop-root.result in
    found_none (asks s c.args.difference) c.args.stop (Seen t r)
    (λ b u f d. ⊎_elim
    (λ v. ⊎_elim (λ w. c.loop-root.invariant.no refl b w f d) (λ w. c.asked_under.ensures.no c.if-asked_under.false b w f d) v)
    (λ v. aside-asks _ t (formed-facts _ _ s.table.formed).cells c.args.difference s.cell
    (rw length-table s.inside) b v d)
    (seen_next t s.cell c.loop-root.root r b c.next_root-root-in-loop-root.ensures.passed u))

pub returns : goal.returns
returns c =
    let s = c.args.self.now in
    let t = cells s.table in
    found_as (asks s c.args.difference) c.args.stop (Seen t c.loop-root.root) (λ (b : ℕ). b < s.table.head.count) _
    c.loop-root.invariant
    (λ b h d. seen_all _ t (formed-facts _ _ s.table.formed).cells s.roots.now.end c.loop-root.root s.indexed.below
    c.loop-root-test.false b (rw length-table h))
