use Rattle.std.proofs.Common.{◌∷◌, [], ◌++◌, length, w64, SFits, to_z-of_z, arith, rules}
use Rattle.fields.proofs.Loop.{goes_on, is_done, reads_on}
use Rattle.record.specs.Board.{Point, point}
use Rattle.record.specs.Rows.{point_row}
use Rattle.record.proofs.Storing.{stored_next}
use Rattle.record.proofs.Copying.{ok, x_room, y_room, point_known}
use Rattle.record.proofs.copy.copy_ring.Goals as goal

pub known_i64-x-requires : goal.known_i64-x-requires
known_i64-x-requires c =
    let l = c.loop-place in
    let turn = reads_on (λ (_ : Unit {0}). point) (λ (_ : Point). tt) tt (length c.args.row.now) c.args.reader.now l.place-index l.invariant.0 tt l.reader l.invariant.1 c.loop-place-test.true (ok _ c.requires).1 in
    x_room l.reader turn.1

pub known_i64-y-requires : goal.known_i64-y-requires
known_i64-y-requires c =
    let l = c.loop-place in
    let turn = reads_on (λ (_ : Unit {0}). point) (λ (_ : Point). tt) tt (length c.args.row.now) c.args.reader.now l.place-index l.invariant.0 tt l.reader l.invariant.1 c.loop-place-test.true (ok _ c.requires).1 in
    y_room l.reader turn.1 c.known_i64-x.ensures

pub loop-place-preserved : goal.loop-place-preserved
loop-place-preserved c =
    let l = c.loop-place in
    let turn = reads_on (λ (_ : Unit {0}). point) (λ (_ : Point). tt) tt (length c.args.row.now) c.args.reader.now l.place-index l.invariant.0 tt l.reader l.invariant.1 c.loop-place-test.true (ok _ c.requires).1 in
    let fits_x : SFits w64 c.known_i64-x.result = search rules in
    let fits_y : SFits w64 c.known_i64-y.result = search rules in
    let x : Point = record { x = c.known_i64-x.result; y = c.known_i64-y.result } in (
      l.invariant.0 ++ x ∷ [],
      goes_on (λ (_ : Unit {0}). point) (λ (_ : Point). tt) tt (length c.args.row.now) c.args.reader.now l.place-index l.invariant.0 tt l.reader l.invariant.1 x _ c.loop-place-test.true (point_known l.reader turn.1 c.known_i64-x.ensures c.known_i64-y.ensures),
      rw (to_z-of_z fits_x, to_z-of_z fits_y, l.invariant.2) (stored_next point_row _ 0 l.invariant.0 x (omega (arith, l.invariant.1.long))),
    )

pub returns : goal.returns
returns c =
    let l = c.loop-place in
    let all = is_done (λ (_ : Unit {0}). point) (λ (_ : Point). tt) tt (length c.args.row.now) c.args.reader.now l.place-index l.invariant.0 tt l.reader l.invariant.1 c.loop-place-test.false in
    (l.invariant.0, all, l.invariant.2)
