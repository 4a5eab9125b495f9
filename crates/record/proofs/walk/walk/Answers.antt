use Rattle.std.proofs.Common.{sym, ◌∙◌}
use Rattle.record.proofs.Boards.{board_is}
use Rattle.record.proofs.walk.walk.Goals as goal

pub returns : goal.returns
returns c =
    let b = c.in_ok-read.ensures in (
      b.0,
      board_is c.args.bytes.now (c.in-Some.byte, c.read_u8.new.self) c.in_ok-version.version (c.in-Some-read_u32.length, c.read_u32.new.self) (b.0, c.read_body.new.reader)
          (rw c.new-reader.ensures at c.in-Some.ensures.read) (sym c.in_ok-version.ensures) c.in-Some-read_u32.ensures.read (c.if-length-left.false ∙ c.left.ensures)
          (rw c.limits-limits.ensures at b.1) (sym c.left-2.ensures ∙ c.if-left-ne0.false),
      b.2,
    )
