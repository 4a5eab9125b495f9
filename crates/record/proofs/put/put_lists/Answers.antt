use Rattle.std.proofs.Common.{◌+◌, ◌*◌, ◌≡◌, arith, length, length-append}
use Rattle.std.specs.List.{flat_map}
use Rattle.std.specs.Int.{bytes_high_first}
use Rattle.fields.proofs.Stores.{bytes-length}
use Rattle.fields.proofs.Writing.{writes_then}
use Rattle.record.specs.Puts.{entry_bytes, layers_bytes, polygons_bytes, polygon_bytes, polygons_size}
use Rattle.record.specs.Lent.{lent_rows}
use Rattle.record.specs.Writing.{entries_of, polygons_of}
use Rattle.record.proofs.Turns.{entries-long, polygons-long}
use Rattle.record.proofs.put.put_lists.Goals as goal

pub returns : goal.returns
returns c =
    let rows = lent_rows c.args.rows.now in
    let layers : length (layers_bytes rows.layers) ≡ 2 + 10 * length rows.layers =
    omega (arith, bytes-length 2 (length rows.layers), length-append (bytes_high_first 2 (length rows.layers)) (flat_map entry_bytes (entries_of rows.layers)), entries-long rows.layers) in
    let polygons : length (polygons_bytes rows) ≡ polygons_size rows =
    omega (arith, bytes-length 2 (length rows.polygons), length-append (bytes_high_first 2 (length rows.polygons)) (flat_map polygon_bytes (polygons_of rows.polygons rows.sheets rows.points)), polygons-long rows.polygons rows.sheets rows.points c.requires.same_len c.requires.counted) in
    let behind = writes_then polygons c.put_polygons.ensures c.put_splits.ensures in
    let all = writes_then layers c.put_layers.ensures behind in
    record { next = omega (arith, all.next); stored = all.stored; row_length = all.row_length; same_reference = all.same_reference }
