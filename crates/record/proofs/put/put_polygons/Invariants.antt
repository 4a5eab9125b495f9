-- The polygons still to be put, with the points that are left, make the row what it is to be.
use Rattle.std.proofs.Common.{◌+◌, ◌*◌, ◌≡◌, true, length}
use Rattle.std.proofs.lemmas.List.Edits.{sets}
use Rattle.std.specs.List.{flat_map}
use Rattle.std.specs.Slice.Iter.{iter_rest}
use Rattle.std.specs.Iterator.Adapters.{zip_first, zip_second}
use Rattle.record.specs.Puts.{polygon_bytes, polygons_bytes, polygons_size}
use Rattle.record.specs.Lent.{lent_rows}
use Rattle.record.specs.Writing.{polygons_of, add_up}
use Rattle.record.proofs.put.put_polygons.Given as goal

abbrev pub invariant-loop-head : goal.invariant-loop-head
invariant-loop-head l =
    let rows = lent_rows l.rows in
    let heads = iter_rest (zip_first l.head-iterator) in
    let sheets = iter_rest (zip_second l.head-iterator) in
    record {
      same_len : length heads ≡ length sheets;
      counted : add_up heads (length l.left) ≡ true;
      next : l.writer.at + (16 * length heads + 16 * length l.left) ≡ l.fn.writer.at + polygons_size rows;
      stored : sets l.writer.bytes.now l.writer.at (flat_map polygon_bytes (polygons_of heads sheets l.left)) ≡ sets l.fn.writer.bytes.now l.fn.writer.at (polygons_bytes rows);
      row_length : length l.writer.bytes.now ≡ length l.fn.writer.bytes.now;
      same_reference : l.writer.bytes.ghost_name ≡ l.fn.writer.bytes.ghost_name;
    }
