use Rattle.std.proofs.Common.{◌≡◌, ◌≤◌, ℕ, ◌+◌, ◌∷◌, [], ◌++◌, length, map, sym, ap, ◌∙◌, is_ok, arith}
use Rattle.std.proofs.lemmas.List.Edits.{sets}
use Rattle.std.proofs.lemmas.List.{length-map}
use Rattle.fields.specs.Codec.{times}
use Rattle.fields.proofs.Laws.{many_length}
use Rattle.fields.proofs.Loop.{goes_on, is_done}
use Rattle.record.specs.declared.board.Version.TheVariants.{One}
use Rattle.record.specs.Board.{Point, Polygon, limits_of, point, polygon}
use Rattle.record.specs.Rows.{polygon_row, sheet_of, point_row}
use Rattle.record.specs.Walks.{HasPolygonRoom}
use Rattle.record.proofs.Sheets.{no_nan}
use Rattle.record.proofs.Storing.{stored_next, stored_ring, stored_part, part_long, rings_next_long}
use Rattle.record.proofs.Copying.{ok_and, list_known, polygons_long, polygon_turn, turn_room, layer_room, component_room, sheet_room, sheet_known, count_room, ring_known, polygon_known}
use Rattle.record.proofs.copy.copy_polygons.Goals as goal

pub known_u16-layer-requires : goal.known_u16-layer-requires
known_u16-layer-requires c =
    let l = c.loop-i in
    let list = ok_and _ _ c.requires in
    let counted = rw (← c.from-count.ensures) at c.known_u16.ensures in
    let turn = polygon_turn c.args.reader.now list.1 counted l.i l.invariant.0 l.reader l.invariant.1 c.loop-i-test.true in
    layer_room (limits_of One) l.reader turn.1

pub known_u32-component-requires : goal.known_u32-component-requires
known_u32-component-requires c =
    let l = c.loop-i in
    let list = ok_and _ _ c.requires in
    let counted = rw (← c.from-count.ensures) at c.known_u16.ensures in
    let turn = polygon_turn c.args.reader.now list.1 counted l.i l.invariant.0 l.reader l.invariant.1 c.loop-i-test.true in
    component_room (limits_of One) l.reader turn.1 c.known_u16-layer.ensures

pub known_u64-bits-requires : goal.known_u64-bits-requires
known_u64-bits-requires c =
    let l = c.loop-i in
    let list = ok_and _ _ c.requires in
    let counted = rw (← c.from-count.ensures) at c.known_u16.ensures in
    let turn = polygon_turn c.args.reader.now list.1 counted l.i l.invariant.0 l.reader l.invariant.1 c.loop-i-test.true in
    sheet_room (limits_of One) l.reader turn.1 c.known_u16-layer.ensures c.known_u32-component.ensures

pub known_u16-size-requires : goal.known_u16-size-requires
known_u16-size-requires c =
    let l = c.loop-i in
    let list = ok_and _ _ c.requires in
    let counted = rw (← c.from-count.ensures) at c.known_u16.ensures in
    let turn = polygon_turn c.args.reader.now list.1 counted l.i l.invariant.0 l.reader l.invariant.1 c.loop-i-test.true in
    count_room (limits_of One) l.reader turn.1 c.known_u16-layer.ensures c.known_u32-component.ensures c.known_u64-bits.ensures

pub bounds-heads-i : goal.bounds-heads-i
bounds-heads-i c =
    let l = c.loop-i in
    let list = ok_and _ (HasPolygonRoom c.args.heads.now c.args.sheets.now c.args.points.now) c.requires in
    omega (arith, list.2.each_head, polygons_long c.args.reader.now list.1 (rw (← c.from-count.ensures) at c.known_u16.ensures), l.auto.heads, c.loop-i-test.true)

pub float_from_bits-sheets : goal.float_from_bits-sheets
float_from_bits-sheets c =
    let l = c.loop-i in
    let list = ok_and _ _ c.requires in
    let counted = rw (← c.from-count.ensures) at c.known_u16.ensures in
    let turn = polygon_turn c.args.reader.now list.1 counted l.i l.invariant.0 l.reader l.invariant.1 c.loop-i-test.true in
    no_nan _ (sheet_known (limits_of One) l.reader turn.1 c.known_u16-layer.ensures c.known_u32-component.ensures c.known_u64-bits.ensures)

pub bounds-sheets-i : goal.bounds-sheets-i
bounds-sheets-i c =
    let l = c.loop-i in
    let list = ok_and _ (HasPolygonRoom c.args.heads.now c.args.sheets.now c.args.points.now) c.requires in
    omega (arith, list.2.each_sheet, polygons_long c.args.reader.now list.1 (rw (← c.from-count.ensures) at c.known_u16.ensures), l.auto.sheets, c.loop-i-test.true)

pub slice_bounds-copy_ring-end : goal.slice_bounds-copy_ring-end
slice_bounds-copy_ring-end c =
    let l = c.loop-i in
    let list = ok_and _ _ c.requires in
    let counted = rw (← c.from-count.ensures) at c.known_u16.ensures in
    let turn = polygon_turn c.args.reader.now list.1 counted l.i l.invariant.0 l.reader l.invariant.1 c.loop-i-test.true in
    let ring = ring_known (limits_of One) l.reader turn.1 c.known_u16-layer.ensures c.known_u32-component.ensures c.known_u64-bits.ensures (rw (← c.from-in-loop-i-3.ensures) at c.known_u16-size.ensures) in
    let long : length turn.0.0.points ≡ c.from-in-loop-i-3.result = many_length (λ (_ : Unit {0}). point) (λ (_ : Point). tt) tt c.from-in-loop-i-3.result _ ring in
    let room = turn_room c.args.reader.now list.1 counted l.i l.invariant.0 l.reader l.invariant.1 c.loop-i-test.true in
    omega (arith, long, room, list.2.each_point, l.invariant.3, l.auto.points)

pub copy_ring-requires : goal.copy_ring-requires
copy_ring-requires c =
    let l = c.loop-i in
    let list = ok_and _ _ c.requires in
    let counted = rw (← c.from-count.ensures) at c.known_u16.ensures in
    let turn = polygon_turn c.args.reader.now list.1 counted l.i l.invariant.0 l.reader l.invariant.1 c.loop-i-test.true in
    let ring = ring_known (limits_of One) l.reader turn.1 c.known_u16-layer.ensures c.known_u32-component.ensures c.known_u64-bits.ensures (rw (← c.from-in-loop-i-3.ensures) at c.known_u16-size.ensures) in
    let long : length turn.0.0.points ≡ c.from-in-loop-i-3.result = many_length (λ (_ : Unit {0}). point) (λ (_ : Point). tt) tt c.from-in-loop-i-3.result _ ring in
    let room = turn_room c.args.reader.now list.1 counted l.i l.invariant.0 l.reader l.invariant.1 c.loop-i-test.true in
    let fits : l.first + c.from-in-loop-i-3.result ≤ length l.points = omega (arith, long, room, list.2.each_point, l.invariant.3, l.auto.points) in
    let part = part_long l.points l.first c.from-in-loop-i-3.result fits in
    ap is_ok (ap (λ (n : ℕ). times point n c.known_u16-size.new.self) part ∙ ring)

pub loop-i-preserved : goal.loop-i-preserved
loop-i-preserved c =
    let l = c.loop-i in
    let list = ok_and _ _ c.requires in
    let counted = rw (← c.from-count.ensures) at c.known_u16.ensures in
    let turn = polygon_turn c.args.reader.now list.1 counted l.i l.invariant.0 l.reader l.invariant.1 c.loop-i-test.true in
    let front = l.invariant.0 in
    let so_far = l.invariant.2 in
    let known = ring_known (limits_of One) l.reader turn.1 c.known_u16-layer.ensures c.known_u32-component.ensures c.known_u64-bits.ensures (rw (← c.from-in-loop-i-3.ensures) at c.known_u16-size.ensures) in
    let known_long : length turn.0.0.points ≡ c.from-in-loop-i-3.result = many_length (λ (_ : Unit {0}). point) (λ (_ : Point). tt) tt c.from-in-loop-i-3.result _ known in
    let room = turn_room c.args.reader.now list.1 counted l.i l.invariant.0 l.reader l.invariant.1 c.loop-i-test.true in
    let fits : l.first + c.from-in-loop-i-3.result ≤ length l.points = omega (arith, known_long, room, list.2.each_point, l.invariant.3, l.auto.points) in
    let part = part_long l.points l.first c.from-in-loop-i-3.result fits in
    let ring = c.copy_ring.ensures in
    let ring_read = ap (λ (n : ℕ). times point n c.known_u16-size.new.self) (sym part) ∙ ring.1 in
    let p : Polygon = record { layer = c.known_u16-layer.result; component = c.known_u32-component.result; sheet = c.known_u64-bits.result; points = ring.0 } in
    let read = polygon_known (limits_of One) l.reader turn.1 c.known_u16-layer.ensures c.known_u32-component.ensures c.known_u64-bits.ensures (rw (← c.from-in-loop-i-3.ensures) at c.known_u16-size.ensures) ring_read in
    let long : length ring.0 ≡ c.from-in-loop-i-3.result = many_length (λ (_ : Unit {0}). point) (λ (_ : Point). tt) tt c.from-in-loop-i-3.result _ ring_read in
    let size : c.known_u16-size.result ≡ length ring.0 = sym (long ∙ c.from-in-loop-i-3.ensures) in (
      front ++ p ∷ [],
      goes_on (λ (_ : Unit {0}). polygon (limits_of One)) (λ (_ : Polygon). tt) tt c.from-count.result c.known_u16.new.self l.i l.invariant.0 tt l.reader l.invariant.1 p _ c.loop-i-test.true read,
      record {
        each_head = rw (c.from.ensures, c.from-in-loop-i.ensures, c.from-in-loop-i-2.ensures, size, so_far.each_head) (stored_next polygon_row _ 0 front p (omega (arith, l.invariant.1.long)));
        each_sheet = rw so_far.each_sheet (stored_next sheet_of _ 0 front p (omega (arith, l.invariant.1.long)));
        each_point = stored_part l.points _ l.first c.from-in-loop-i-3.result (map point_row ring.0) (length-map ring.0 point_row ∙ long) fits ring.2 ∙ ap (λ row. sets row l.first (map point_row ring.0)) so_far.each_point ∙ stored_ring _ front p l.invariant.3;
      },
      omega (arith, rings_next_long front p, l.invariant.3, long),
      omega (arith, l.invariant.4, c.from-in-loop-i-3.ensures),
    )

pub returns : goal.returns
returns c =
    let l = c.loop-i in
    let list = ok_and _ _ c.requires in
    let all = is_done (λ (_ : Unit {0}). polygon (limits_of One)) (λ (_ : Polygon). tt) tt c.from-count.result c.known_u16.new.self l.i l.invariant.0 tt l.reader l.invariant.1 c.loop-i-test.false in
    (l.invariant.0, list_known (λ (_ : Unit {0}). polygon (limits_of One)) (λ (_ : Polygon). tt) _ tt c.args.reader.now list.1 (rw (← c.from-count.ensures) at c.known_u16.ensures) all, l.invariant.2)
