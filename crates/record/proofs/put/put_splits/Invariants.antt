-- The ids still to be put make the row what it is to be.
use Rattle.std.proofs.Common.{◌+◌, ◌*◌, ◌≡◌, drop, length}
use Rattle.std.proofs.lemmas.List.Edits.{sets}
use Rattle.std.specs.List.{flat_map}
use Rattle.std.specs.Int.{bytes_high_first}
use Rattle.record.specs.Puts.{splits_bytes}
use Rattle.record.proofs.put.put_splits.Given as goal

abbrev pub invariant-loop-id : goal.invariant-loop-id
invariant-loop-id l =
    record {
      next : l.writer.at ≡ l.fn.writer.at + (2 + 4 * l.id-index);
      stored : sets l.writer.bytes.now l.writer.at (flat_map (bytes_high_first 4) (drop l.id-index l.row)) ≡ sets l.fn.writer.bytes.now l.fn.writer.at (splits_bytes l.row);
      row_length : length l.writer.bytes.now ≡ length l.fn.writer.bytes.now;
      same_reference : l.writer.bytes.ghost_name ≡ l.fn.writer.bytes.ghost_name;
    }
