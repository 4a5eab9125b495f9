use Rattle.std.proofs.Common.{append_assoc}
use Rattle.leafnet_text.proofs.lines.Totals.put.Goals as goal

pub returns-clause-bytes : goal.returns-clause-bytes
returns-clause-bytes c =
    rw (
      c.push_str-6.ensures.bytes,
      c.put_number-5.ensures.bytes,
      c.push_str-5.ensures.bytes,
      c.put_number-4.ensures.bytes,
      c.push_str-4.ensures.bytes,
      c.put_number-3.ensures.bytes,
      c.push_str-3.ensures.bytes,
      c.put_number-2.ensures.bytes,
      c.push_str-2.ensures.bytes,
      c.put_number.ensures.bytes,
      c.push_str.ensures.bytes,
    )
    (simp append_assoc)
