use Rattle.std.proofs.Common.{append_assoc}
use Rattle.leafnet_text.proofs.lines.put_edge.Goals as goal

pub returns-clause-bytes : goal.returns-clause-bytes
returns-clause-bytes c =
    rw (
      c.push_str-4.ensures.bytes,
      c.put_hex.ensures.bytes,
      c.bits.ensures,
      c.push_str-3.ensures.bytes,
      c.put_number-2.ensures.bytes,
      c.push_str-2.ensures.bytes,
      c.put_number.ensures.bytes,
      c.push_str.ensures.bytes,
    )
    (simp append_assoc)
