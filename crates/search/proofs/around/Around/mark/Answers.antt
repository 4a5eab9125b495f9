use Rattle.std.proofs.Common.{ℕ, ◌<◌, ◌⊎◌, ⊎_elim, arith}
use Rattle.table.specs.Tables.{cells}
use Rattle.table.proofs.Cells.{length-table}
use Rattle.table.proofs.Wellformed.{formed-facts}
use Rattle.search.specs.Search.{Under}
use Rattle.search.specs.Marks.{Wanted}
use Rattle.search.proofs.Marking.{marked-none, marked-then, marked-as, aside-unwanted}
use Rattle.search.proofs.Rooted.{Seen, seen_first, seen_next, seen_all, root-inside, root-few}
use Rattle.search.proofs.around.Around.mark.Goals as goal

pub loop-root-init : goal.loop-root-init
loop-root-init c =
    let s = c.args.self.now in
    let t = cells s.table in
    let r = c.next_root-root.result in
    marked-none (Wanted t s.cell c.args.levels) (Seen t r) c.args.marks.now
    (λ a u w. aside-unwanted _ t (formed-facts _ _ s.table.formed).cells s.cell c.args.levels a
    (seen_first t s.cell r a c.next_root-root.ensures.passed u) w)

pub mark_under-requires : goal.mark_under-requires
mark_under-requires c = root-inside c.args.self.now c.loop-root.root c.loop-root-test.true

pub overflow_add-root : goal.overflow_add-root
overflow_add-root c = omega (arith, root-few c.args.self.now c.loop-root.root c.loop-root-test.true)

pub loop-root-preserved : goal.loop-root-preserved
loop-root-preserved c =
    let s = c.args.self.now in
    let t = cells s.table in
    let w = Wanted t s.cell c.args.levels in
    let l = c.loop-root in
    let r = c.next_root-root-in-loop-root.result in
    let g = c.mark_under in
    marked-as w (λ (a : ℕ). Seen t l.root a ⊎ Under t l.root a) (Seen t r) c.args.marks.now g.new.marks
    (marked-then w (Seen t l.root) (Under t l.root) c.args.marks.now l.marks g.new.marks l.invariant g.ensures)
    (λ a u v. ⊎_elim (λ x. x)
    (λ x. absurd (aside-unwanted _ t (formed-facts _ _ s.table.formed).cells s.cell c.args.levels a x v))
    (seen_next t s.cell l.root r a c.next_root-root-in-loop-root.ensures.passed u))

pub returns : goal.returns
returns c =
    let s = c.args.self.now in
    let t = cells s.table in
    marked-as (Wanted t s.cell c.args.levels) (Seen t c.loop-root.root) (λ (a : ℕ). a < s.table.head.count) c.args.marks.now
    c.loop-root.marks c.loop-root.invariant
    (λ a h w. seen_all _ t (formed-facts _ _ s.table.formed).cells s.roots.now.end c.loop-root.root s.indexed.below
    c.loop-root-test.false a (rw length-table h))
