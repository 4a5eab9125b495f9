use Rattle.std.proofs.Common.{refl, sym}
use Rattle.fields.proofs.Laws.{many_length}
use Rattle.record.specs.Board.{Point, point, polygon}
use Rattle.record.proofs.walk.read_polygon.Goals as goal

pub returns : goal.returns
unfolding polygon
returns c =
    let p = c.in_ok-read_ring.ensures in (
      record { layer = c.in-Some._layer; component = c.in-Some-read_u32._component; sheet = c.in-Ok._sheet; points = p.0 },
      rw (c.in-Some.ensures.read, c.in-Some-read_u32.ensures.read, c.in-Ok.ensures.read, c.in-Ok-points.ensures.read, p.1) refl,
      sym (many_length (λ (_ : Unit {0}). point) (λ (_ : Point). tt) tt _ _ p.1),
    )
