use Rattle.std.proofs.Common.{◌≡◌, ◌<◌, ◌∷◌, [], ◌++◌, ℕ, List, map, drop, length-take, Some, None, ap, ◌∙◌, arith}
use Rattle.std.proofs.lemmas.List.{length-map}
use Rattle.fields.proofs.Loop.{goes_on, is_done, reads_on}
use Rattle.record.specs.declared.board.Version.TheVariants.{One}
use Rattle.record.specs.Board.{Entry, limits_of, entry}
use Rattle.record.specs.Rows.{entry_row}
use Rattle.record.proofs.Storing.{stored_next, stored_front}
use Rattle.record.proofs.Copying.{ok_and, items_known, list_known, list_room, entry_room, cell_room, entry_known}
use Rattle.record.proofs.copy.copy_layers.Goals as goal

pub slice_bounds-entry-items-end : goal.slice_bounds-entry-items-end
slice_bounds-entry-items-end c =
    list_room (entry (limits_of One)) (λ (e : Entry). Some e.layer) _ None c.args.reader.now c.args.row.now c.requires (rw (← c.from-count.ensures) at c.known_u16.ensures)

pub slice_bounds-entry-items-end-2 : goal.slice_bounds-entry-items-end-2
slice_bounds-entry-items-end-2 c =
    let room = list_room (entry (limits_of One)) (λ (e : Entry). Some e.layer) _ None c.args.reader.now c.args.row.now c.requires (rw (← c.from-count.ensures) at c.known_u16.ensures) in
    omega (arith, room, length-take c.from-count.result c.args.row.now)

pub known_u16-layer-requires : goal.known_u16-layer-requires
known_u16-layer-requires c =
    let l = c.loop-entry in
    let list = ok_and _ _ c.requires in
    let whole = items_known (entry (limits_of One)) (λ (e : Entry). Some e.layer) _ None c.args.reader.now list.1 (rw (← c.from-count.ensures) at c.known_u16.ensures) in
    let more : c.loop-entry.entry-index < c.from-count.result = omega (arith, length-take c.from-count.result c.args.row.now, c.loop-entry-test.true) in
    let turn = reads_on (entry (limits_of One)) (λ (e : Entry). Some e.layer) None c.from-count.result c.known_u16.new.self l.entry-index l.invariant.0 l.invariant.1 l.reader l.invariant.2 more whole in
    entry_room (limits_of One) l.invariant.1 l.reader turn.1

pub known_u64-cell-requires : goal.known_u64-cell-requires
known_u64-cell-requires c =
    let l = c.loop-entry in
    let list = ok_and _ _ c.requires in
    let whole = items_known (entry (limits_of One)) (λ (e : Entry). Some e.layer) _ None c.args.reader.now list.1 (rw (← c.from-count.ensures) at c.known_u16.ensures) in
    let more : c.loop-entry.entry-index < c.from-count.result = omega (arith, length-take c.from-count.result c.args.row.now, c.loop-entry-test.true) in
    let turn = reads_on (entry (limits_of One)) (λ (e : Entry). Some e.layer) None c.from-count.result c.known_u16.new.self l.entry-index l.invariant.0 l.invariant.1 l.reader l.invariant.2 more whole in
    cell_room (limits_of One) l.invariant.1 l.reader turn.1 c.known_u16-layer.ensures

pub loop-entry-preserved : goal.loop-entry-preserved
loop-entry-preserved c =
    let l = c.loop-entry in
    let list = ok_and _ _ c.requires in
    let whole = items_known (entry (limits_of One)) (λ (e : Entry). Some e.layer) _ None c.args.reader.now list.1 (rw (← c.from-count.ensures) at c.known_u16.ensures) in
    let more : c.loop-entry.entry-index < c.from-count.result = omega (arith, length-take c.from-count.result c.args.row.now, c.loop-entry-test.true) in
    let turn = reads_on (entry (limits_of One)) (λ (e : Entry). Some e.layer) None c.from-count.result c.known_u16.new.self l.entry-index l.invariant.0 l.invariant.1 l.reader l.invariant.2 more whole in
    let x : Entry = record { layer = c.known_u16-layer.result; cell = c.known_u64-cell.result } in
    let read = entry_known (limits_of One) l.invariant.1 l.reader turn.1 c.known_u16-layer.ensures c.known_u64-cell.ensures in (
      l.invariant.0 ++ x ∷ [],
      Some x.layer,
      goes_on (entry (limits_of One)) (λ (e : Entry). Some e.layer) None c.from-count.result c.known_u16.new.self l.entry-index l.invariant.0 l.invariant.1 l.reader l.invariant.2 x _ more read,
      rw (c.from.ensures, l.invariant.3) (stored_next entry_row _ 0 l.invariant.0 x (omega (arith, l.invariant.2.long))),
    )

pub returns : goal.returns
returns c =
    let l = c.loop-entry in
    let n = c.from-count.result in
    let room = list_room (entry (limits_of One)) (λ (e : Entry). Some e.layer) _ None c.args.reader.now c.args.row.now c.requires (rw (← c.from-count.ensures) at c.known_u16.ensures) in
    let ended : n ≡ l.entry-index = omega (arith, room, length-take n c.args.row.now, c.loop-entry-test.false, l.auto.entry-index-end) in
    let all = is_done (entry (limits_of One)) (λ (e : Entry). Some e.layer) None n c.known_u16.new.self l.entry-index l.invariant.0 l.invariant.1 l.reader l.invariant.2 (omega (arith, ended)) in
    let list = ok_and _ _ c.requires in (
      l.invariant.0,
      list_known (entry (limits_of One)) (λ (e : Entry). Some e.layer) _ None c.args.reader.now list.1 (rw (← c.from-count.ensures) at c.known_u16.ensures) all,
      ap (λ (z : List (List ℕ)). z ++ drop n c.args.row.now) l.invariant.3 ∙ stored_front c.args.row.now n 0 (map entry_row l.invariant.0) (omega (arith, length-map l.invariant.0 entry_row, l.invariant.2.long, ended)),
    )
