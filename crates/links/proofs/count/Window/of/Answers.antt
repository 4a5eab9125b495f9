use Rattle.std.proofs.Common.{rules, ◌≡◌, pos, nat_abs, ◌-ℤ◌, w64, to_z, of_z}
use Rattle.std.specs.Int.Signed.{le_z}
use Rattle.cell.specs.Ticks.{on}
use Rattle.table.proofs.All.{and_left, and_right}
use Rattle.links.proofs.count.Window.of.Goals as goal

pub returns : goal.returns
returns c m x y e =
    let f = c.args.footprint in
    let across = le_z (pos (nat_abs (on m.x -ℤ f.x))) f.half_width in
    let up = le_z (pos (nat_abs (on m.y -ℤ f.y))) f.half_height in
    let ex : to_z w64 (of_z w64 f.x) ≡ f.x = search rules in
    let ew : to_z w64 (of_z w64 f.half_width) ≡ f.half_width = search rules in
    let ey : to_z w64 (of_z w64 f.y) ≡ f.y = search rules in
    let eh : to_z w64 (of_z w64 f.half_height) ≡ f.half_height = search rules in
    let a = (rw (ex, ew) at c.reach-x0.ensures) m.x x (and_left across up e) in
    let b = (rw (ey, eh) at c.reach-y0.ensures) m.y y (and_right across up e) in
    (a.0, a.1, b.0, b.1)
