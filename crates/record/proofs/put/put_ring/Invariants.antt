-- The points still to be put make the row what it is to be.
use Rattle.std.proofs.Common.{◌+◌, ◌*◌, ◌≡◌, drop, length}
use Rattle.std.proofs.lemmas.List.Edits.{sets}
use Rattle.std.specs.List.{flat_map}
use Rattle.record.specs.Puts.{point_bytes}
use Rattle.record.specs.Writing.{ring_of}
use Rattle.record.proofs.put.put_ring.Given as goal

abbrev pub invariant-loop-point : goal.invariant-loop-point
invariant-loop-point l =
    record {
      next : l.writer.at ≡ l.fn.writer.at + 16 * l.point-index;
      stored : sets l.writer.bytes.now l.writer.at (flat_map point_bytes (ring_of (drop l.point-index l.row))) ≡ sets l.fn.writer.bytes.now l.fn.writer.at (flat_map point_bytes (ring_of l.row));
      row_length : length l.writer.bytes.now ≡ length l.fn.writer.bytes.now;
      same_reference : l.writer.bytes.ghost_name ≡ l.fn.writer.bytes.ghost_name;
    }
