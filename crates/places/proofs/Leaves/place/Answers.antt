use Rattle.std.proofs.Common.{◌+◌, ◌-◌, ◌*◌, ◌≡◌, length, ap, ◌∙◌, arith}
use Rattle.net.specs.Net.{nth}
use Rattle.places.specs.Places.{leaves_in, places_in}
use Rattle.places.proofs.Places.{leaves-length, corner_at, middle_at}
use Rattle.places.proofs.Leaves.place.Goals as goal

pub returns-then-i-corners : goal.returns-then-i-corners
returns-then-i-corners c =
    let b = c.args.self.now in
    let n = leaves-length b in
    c.place_at.ensures ∙ corner_at (leaves_in b) c.args.i (omega (arith, c.if-i-corners.true, c.corner_count-corners.ensures))

pub returns-else-i-corners : goal.returns-else-i-corners
returns-else-i-corners c =
    let b = c.args.self.now in
    let n = leaves-length b in
    let e : c.corner_count-corners.result ≡ 4 * length (leaves_in b) = omega (arith, c.corner_count-corners.ensures) in
    let h = c.if-i-corners.false in
    let i : 4 * length (leaves_in b) + (c.args.i - c.corner_count-corners.result) ≡ c.args.i = omega arith in
    c.place_at-else-i-corners.ensures
    ∙ middle_at (leaves_in b) (c.args.i - c.corner_count-corners.result) (omega arith)
    ∙ ap (nth (places_in b)) i
