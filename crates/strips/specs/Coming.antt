-- The strips that a walk has still to give.
use Rattle.std.specs.Prelude.{List, drop}
use Rattle.strips.specs.Walk.{left}
use Rattle.strips.specs.declared.walk.Strip.{Strip}
use Rattle.strips.specs.declared.walk.Strips.{Strips}

abbrev pub coming : Strips → List Strip
coming s = left s.ring.points.now s.ring.edges.now s.edge (drop s.band s.ring.heights.now)
