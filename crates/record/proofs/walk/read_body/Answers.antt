use Rattle.std.proofs.Common.{refl}
use Rattle.record.specs.Board.{body}
use Rattle.record.proofs.walk.read_body.Goals as goal

pub returns : goal.returns
unfolding body
returns c =
    let layers = c.in_ok-layers.ensures in
    let polygons = c.in_ok-walked.ensures in
    let splits = c.in_ok-splits.ensures in (
      record { settings = c.in_ok-settings.settings; layers = layers.0; polygons = polygons.0; splits = splits.0 },
      rw (c.in_ok-settings.ensures, layers.1, polygons.1, splits.1) refl,
      rw (layers.2, polygons.2, polygons.3, splits.2) refl,
    )
