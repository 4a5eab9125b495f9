use Rattle.std.proofs.lemmas.Bool.Decides.{nat_tests}
use Rattle.std.proofs.Common.{◌≡◌, refl, sym, ◌∙◌, ap, ℕ, ◌≤◌, ◌<◌, arith, leb, le-leb}
use Rattle.links.specs.declared.count.Counting.{Counting}
use Rattle.links.specs.declared.count.Counting.TheVariants.{EachNode}
use Rattle.links.specs.Count.{most, IsTotal}
use Rattle.links.proofs.Rooms.{room-is}
use Rattle.links.proofs.count.edges_fit.Goals as goal

-- a number that is no less fits, so the number does
fits : (c : Counting) (n result room : ℕ) → room < most → result ≤ room → IsTotal c n result → leb result room ≡ leb n room
fits c n result room h l t = let b = t.bound in le-leb result room l ∙ sym (le-leb n room (omega arith))

-- the number fits, or does not
exactly : (n result room : ℕ) → room < most → IsTotal EachNode n result → leb result room ≡ leb n room
exactly n result room h t = let e = t.exact refl in grind (arith, nat_tests)

pub returns-then-count_edges-room : goal.returns-then-count_edges-room
returns-then-count_edges-room c sheets =
    let a = c.args in
    let total = rw (c.of-corners.ensures.table, c.of-corners.ensures.polygons) at c.count_edges.ensures in
    fits _ _ _ a.room c.requires.rows c.if-count_edges-room.true total
    ∙ ap (λ (n : ℕ). leb n a.room) (sym (room-is a.table.now a.polygons sheets a.links.now c.requires.known))

pub returns-else-count_edges-room : goal.returns-else-count_edges-room
returns-else-count_edges-room c sheets =
    let a = c.args in
    let total = rw (c.of-corners.ensures.table, c.of-corners.ensures.polygons) at c.count_edges-else-count_edges-room.ensures in
    exactly _ _ a.room c.requires.rows total
    ∙ ap (λ (n : ℕ). leb n a.room) (sym (room-is a.table.now a.polygons sheets a.links.now c.requires.known))
