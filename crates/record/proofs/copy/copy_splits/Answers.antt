use Rattle.std.proofs.Common.{◌≡◌, ◌<◌, ◌∷◌, [], ◌++◌, ℕ, List, map, drop, length-take, ap, ◌∙◌, arith}
use Rattle.std.proofs.lemmas.List.{length-map}
use Rattle.std.specs.Int.{w32}
use Rattle.fields.specs.Codec.{any}
use Rattle.fields.proofs.Laws.{number_room}
use Rattle.fields.proofs.Loop.{goes_on, is_done, reads_on}
use Rattle.record.proofs.Storing.{stored_next, stored_front}
use Rattle.record.proofs.Copying.{ok_and, items_known, list_known, list_room}
use Rattle.record.proofs.copy.copy_splits.Goals as goal

pub slice_bounds-split-items-end : goal.slice_bounds-split-items-end
slice_bounds-split-items-end c =
    list_room (λ (_ : Unit {0}). any w32) (λ (_ : ℕ). tt) _ tt c.args.reader.now c.args.row.now c.requires (rw (← c.from-count.ensures) at c.known_u16.ensures)

pub slice_bounds-split-items-end-2 : goal.slice_bounds-split-items-end-2
slice_bounds-split-items-end-2 c =
    let room = list_room (λ (_ : Unit {0}). any w32) (λ (_ : ℕ). tt) _ tt c.args.reader.now c.args.row.now c.requires (rw (← c.from-count.ensures) at c.known_u16.ensures) in
    omega (arith, room, length-take c.from-count.result c.args.row.now)

pub known_u32-requires : goal.known_u32-requires
known_u32-requires c =
    let l = c.loop-split in
    let list = ok_and _ _ c.requires in
    let whole = items_known (λ (_ : Unit {0}). any w32) (λ (_ : ℕ). tt) _ tt c.args.reader.now list.1 (rw (← c.from-count.ensures) at c.known_u16.ensures) in
    let more : l.split-index < c.from-count.result = omega (arith, length-take c.from-count.result c.args.row.now, c.loop-split-test.true) in
    number_room w32 l.reader (reads_on (λ (_ : Unit {0}). any w32) (λ (_ : ℕ). tt) tt c.from-count.result c.known_u16.new.self l.split-index l.invariant.0 tt l.reader l.invariant.1 more whole).1

pub loop-split-preserved : goal.loop-split-preserved
loop-split-preserved c =
    let l = c.loop-split in
    let x = c.known_u32.result in
    let more : l.split-index < c.from-count.result = omega (arith, length-take c.from-count.result c.args.row.now, c.loop-split-test.true) in (
      l.invariant.0 ++ x ∷ [],
      goes_on (λ (_ : Unit {0}). any w32) (λ (_ : ℕ). tt) tt c.from-count.result _ l.split-index l.invariant.0 tt l.reader l.invariant.1 x _ more c.known_u32.ensures,
      rw (c.from.ensures, l.invariant.2) (stored_next (λ (id : ℕ). id) _ 0 l.invariant.0 x (omega (arith, l.invariant.1.long))),
    )

pub returns : goal.returns
returns c =
    let l = c.loop-split in
    let n = c.from-count.result in
    let room = list_room (λ (_ : Unit {0}). any w32) (λ (_ : ℕ). tt) _ tt c.args.reader.now c.args.row.now c.requires (rw (← c.from-count.ensures) at c.known_u16.ensures) in
    let ended : n ≡ l.split-index = omega (arith, room, length-take n c.args.row.now, c.loop-split-test.false, l.auto.split-index-end) in
    let all = is_done (λ (_ : Unit {0}). any w32) (λ (_ : ℕ). tt) tt n c.known_u16.new.self l.split-index l.invariant.0 tt l.reader l.invariant.1 (omega (arith, ended)) in
    let list = ok_and _ _ c.requires in (
      l.invariant.0,
      list_known (λ (_ : Unit {0}). any w32) (λ (_ : ℕ). tt) _ tt c.args.reader.now list.1 (rw (← c.from-count.ensures) at c.known_u16.ensures) all,
      ap (λ (z : List ℕ). z ++ drop n c.args.row.now) l.invariant.2 ∙ stored_front c.args.row.now n 0 (map (λ (id : ℕ). id) l.invariant.0) (omega (arith, length-map l.invariant.0 (λ (id : ℕ). id), l.invariant.1.long, ended)),
    )
