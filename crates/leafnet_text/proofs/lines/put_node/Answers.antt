use Rattle.std.proofs.Common.{append_assoc, rules}
use mir.Syntax.{w64}
use mir.Val.{SFits}
use mir.Facts.{to_z-of_z}
use Rattle.leafnet_text.proofs.lines.put_node.Goals as goal

pub returns-clause-bytes : goal.returns-clause-bytes
returns-clause-bytes c =
    let n = c.args.node.now in
    let x : SFits w64 n.x = search rules in
    let y : SFits w64 n.y = search rules in
    rw (
      c.push_str-6.ensures.bytes,
      c.put_number-5.ensures.bytes,
      c.push_str-5.ensures.bytes,
      c.put_number-4.ensures.bytes,
      c.push_str-4.ensures.bytes,
      c.put_number-3.ensures.bytes,
      c.push_str-3.ensures.bytes,
      c.put_number-2.ensures.bytes,
      c.push_str-2.ensures.bytes,
      c.put_number.ensures.bytes,
      c.push_str.ensures.bytes,
      to_z-of_z x,
      to_z-of_z y,
    )
    (simp append_assoc)
