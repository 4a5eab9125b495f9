use Rattle.std.proofs.Common.{append_assoc, rules}
use mir.Syntax.{w64}
use mir.Val.{SFits}
use mir.Facts.{to_z-of_z}
use Rattle.leafnet_text.proofs.lines.put_corners.Goals as goal

pub returns-clause-bytes : goal.returns-clause-bytes
returns-clause-bytes c =
    let r = c.args.rect.now in
    let x0 : SFits w64 r.x0 = search rules in
    let y0 : SFits w64 r.y0 = search rules in
    let x1 : SFits w64 r.x1 = search rules in
    let y1 : SFits w64 r.y1 = search rules in
    rw (
      c.put_number-4.ensures.bytes,
      c.push_str-3.ensures.bytes,
      c.put_number-3.ensures.bytes,
      c.push_str-2.ensures.bytes,
      c.put_number-2.ensures.bytes,
      c.push_str.ensures.bytes,
      c.put_number.ensures.bytes,
      to_z-of_z x0,
      to_z-of_z y0,
      to_z-of_z x1,
      to_z-of_z y1,
    )
    (simp append_assoc)
