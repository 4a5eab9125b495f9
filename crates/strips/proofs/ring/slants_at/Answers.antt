-- Coordinates in range differ as offset ones do.
use Rattle.strips.proofs.Levels.{slants-is}
use Rattle.strips.proofs.ring.slants_at.Goals as goal

pub returns : goal.returns
returns c = rw c.next_point-j.ensures (slants-is c.args.points.now c.args.i c.requires.in_range c.requires.inside)
