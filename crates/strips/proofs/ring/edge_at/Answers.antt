use Rattle.std.proofs.Common.{refl}
use Rattle.strips.specs.Rings.{edge_at}
use Rattle.strips.proofs.ring.edge_at.Goals as goal

pub returns : goal.returns
unfolding edge_at
returns c = rw (c.x_at.ensures, c.y_at.ensures, c.x_at-2.ensures, c.y_at-2.ensures, c.next_point-j.ensures) refl
