-- The entries still to be put make the row what it is to be.
use Rattle.std.proofs.Common.{◌+◌, ◌*◌, ◌≡◌, drop, length}
use Rattle.std.proofs.lemmas.List.Edits.{sets}
use Rattle.std.specs.List.{flat_map}
use Rattle.record.specs.Puts.{entry_bytes, layers_bytes}
use Rattle.record.specs.Writing.{entries_of}
use Rattle.record.proofs.put.put_layers.Given as goal

abbrev pub invariant-loop-entry : goal.invariant-loop-entry
invariant-loop-entry l =
    record {
      next : l.writer.at ≡ l.fn.writer.at + (2 + 10 * l.entry-index);
      stored : sets l.writer.bytes.now l.writer.at (flat_map entry_bytes (entries_of (drop l.entry-index l.row))) ≡ sets l.fn.writer.bytes.now l.fn.writer.at (layers_bytes l.row);
      row_length : length l.writer.bytes.now ≡ length l.fn.writer.bytes.now;
      same_reference : l.writer.bytes.ghost_name ≡ l.fn.writer.bytes.ghost_name;
    }
