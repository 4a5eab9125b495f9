use Rattle.std.proofs.Common.{◌≤◌, ℕ, List, length, map, sym, ap, subst, ◌∙◌}
use Rattle.std.proofs.lemmas.List.Edits.{sets}
use Rattle.std.proofs.lemmas.Result.{err_from_is_err_and}
use Rattle.refusals.specs.Said.{accepted}
use Rattle.fields.specs.Cursor.{Cursor, past}
use Rattle.fields.proofs.Laws.{same_read}
use Rattle.record.specs.declared.board.Read.{Read}
use Rattle.record.specs.declared.board.Version.TheVariants.{One}
use Rattle.record.specs.Board.{Entry, Polygon, limits_of, layer_list, polygon_list, split_list}
use Rattle.record.specs.Rows.{rows_of, entry_row, polygon_row, sheet_of, point_row, rings}
use Rattle.record.specs.Lent.{rows_to_fill}
use Rattle.record.specs.Reading.{says, leaves, numbers}
use Rattle.record.proofs.Storing.{map_id}
use Rattle.record.proofs.Boards.{reading_refused, reading_full}
use Rattle.record.proofs.Lists.{judged, ok_with}
use Rattle.record.proofs.reading.read.Goals as goal

pub returns-in_err-read-clause-number_and_place : goal.returns-in_err-read-clause-number_and_place
returns-in_err-read-clause-number_and_place c =
    let p = err_from_is_err_and c.from_residual.result c.from_residual.ensures.1 in
    rw (p.1, p.2) (ap says (sym (reading_refused c.args.bytes.now (rows_to_fill c.args.rows) _ c.in_err-read.ensures.answer)))

pub returns-in_err-read-clause-left : goal.returns-in_err-read-clause-left
returns-in_err-read-clause-left c =
    ap (leaves (rows_to_fill c.args.rows)) (sym (reading_refused c.args.bytes.now (rows_to_fill c.args.rows) _ c.in_err-read.ensures.answer))

pub returns-then-not-has_room-clause-number_and_place : goal.returns-then-not-has_room-clause-number_and_place
returns-then-not-has_room-clause-number_and_place c =
    ap says (sym (reading_full c.args.bytes.now (rows_to_fill c.args.rows) _ c.in_ok-read.ensures.answer c.if-not-has_room.true))

pub returns-then-not-has_room-clause-left : goal.returns-then-not-has_room-clause-left
returns-then-not-has_room-clause-left c =
    ap (leaves (rows_to_fill c.args.rows)) (sym (reading_full c.args.bytes.now (rows_to_fill c.args.rows) _ c.in_ok-read.ensures.answer c.if-not-has_room.true))

pub skip-requires : goal.skip-requires
skip-requires c =
    let bytes = c.args.bytes.now in
    let rows = rows_to_fill c.args.rows in
    let s = judged bytes rows _ c.in_ok-read.ensures.answer c.if-not-has_room.false in
    subst (λ (r : Cursor). 16 ≤ length r.rest) (sym c.new-reader.ensures) s.long

pub copy_layers-requires : goal.copy_layers-requires
copy_layers-requires c =
    let bytes = c.args.bytes.now in
    let rows = rows_to_fill c.args.rows in
    let s = judged bytes rows _ c.in_ok-read.ensures.answer c.if-not-has_room.false in
    let at_layers = ap (layer_list (limits_of One)).reading (c.skip.ensures ∙ ap (past 16) c.new-reader.ensures) ∙ s.lists.layers in
    ok_with _ _ at_layers s.room.layers

pub copy_polygons-requires : goal.copy_polygons-requires
copy_polygons-requires c =
    let bytes = c.args.bytes.now in
    let rows = rows_to_fill c.args.rows in
    let s = judged bytes rows _ c.in_ok-read.ensures.answer c.if-not-has_room.false in
    let at_layers = ap (layer_list (limits_of One)).reading (c.skip.ensures ∙ ap (past 16) c.new-reader.ensures) ∙ s.lists.layers in
    let layers = same_read _ at_layers c.copy_layers.ensures.1 in
    let at_polygons = ap (λ (y : List Entry × Cursor). (polygon_list (limits_of One)).reading y.1) (sym layers) ∙ s.lists.polygons in
    ok_with _ _ at_polygons (record { each_head = s.room.polygons; each_sheet = s.room.sheets; each_point = s.room.points })

pub copy_splits-requires : goal.copy_splits-requires
copy_splits-requires c =
    let bytes = c.args.bytes.now in
    let rows = rows_to_fill c.args.rows in
    let s = judged bytes rows _ c.in_ok-read.ensures.answer c.if-not-has_room.false in
    let at_layers = ap (layer_list (limits_of One)).reading (c.skip.ensures ∙ ap (past 16) c.new-reader.ensures) ∙ s.lists.layers in
    let layers = same_read _ at_layers c.copy_layers.ensures.1 in
    let at_polygons = ap (λ (y : List Entry × Cursor). (polygon_list (limits_of One)).reading y.1) (sym layers) ∙ s.lists.polygons in
    let polygons = same_read _ at_polygons c.copy_polygons.ensures.1 in
    let at_splits = ap (λ (y : List Polygon × Cursor). split_list.reading y.1) (sym polygons) ∙ s.lists.splits in
    ok_with _ _ at_splits s.room.splits

pub returns-clause-number_and_place : goal.returns-clause-number_and_place
returns-clause-number_and_place c =
    let bytes = c.args.bytes.now in
    let rows = rows_to_fill c.args.rows in
    let s = judged bytes rows _ c.in_ok-read.ensures.answer c.if-not-has_room.false in
    ap (λ (r : Read). accepted (numbers r.settings r.counts)) s.summary ∙ ap says (sym s.reads)

pub returns-clause-left : goal.returns-clause-left
returns-clause-left c =
    let bytes = c.args.bytes.now in
    let rows = rows_to_fill c.args.rows in
    let s = judged bytes rows _ c.in_ok-read.ensures.answer c.if-not-has_room.false in
    let at_layers = ap (layer_list (limits_of One)).reading (c.skip.ensures ∙ ap (past 16) c.new-reader.ensures) ∙ s.lists.layers in
    let layers = same_read _ at_layers c.copy_layers.ensures.1 in
    let at_polygons = ap (λ (y : List Entry × Cursor). (polygon_list (limits_of One)).reading y.1) (sym layers) ∙ s.lists.polygons in
    let polygons = same_read _ at_polygons c.copy_polygons.ensures.1 in
    let at_splits = ap (λ (y : List Polygon × Cursor). split_list.reading y.1) (sym polygons) ∙ s.lists.splits in
    let splits = same_read _ at_splits c.copy_splits.ensures.1 in
    let l = c.copy_layers.ensures.2 ∙ ap (λ (y : List Entry × Cursor). sets rows.layers 0 (map entry_row y.0)) (sym layers) in
    let stored = c.copy_polygons.ensures.2 in
    let p = stored.each_head ∙ ap (λ (y : List Polygon × Cursor). sets rows.polygons 0 (map polygon_row y.0)) (sym polygons) in
    let r = stored.each_sheet ∙ ap (λ (y : List Polygon × Cursor). sets rows.sheets 0 (map sheet_of y.0)) (sym polygons) in
    let q = stored.each_point ∙ ap (λ (y : List Polygon × Cursor). sets rows.points 0 (map point_row (rings y.0))) (sym polygons) in
    let k = c.copy_splits.ensures.2 ∙ ap (sets rows.splits 0) (map_id c.copy_splits.ensures.0) ∙ ap (λ (y : List ℕ × Cursor). sets rows.splits 0 y.0) (sym splits) in
    (λ i. rows_of (l i) (p i) (r i) (q i) (k i)) ∙ ap (leaves rows) (sym s.reads)
