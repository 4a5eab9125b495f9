use Rattle.std.proofs.Common.{◌≡◌, Bool, ◌&&◌, [], sym}
use Rattle.refusals.specs.Said.{accepted}
use Rattle.build.specs.Board.{Board, board_of, polygons}
use Rattle.build.specs.Says.{settings_ok, numbers_ok, list_ok}
use Rattle.build.proofs.Fitting.{tabled, room_fits, sheets-fit, points-fit, fit}
use Rattle.build.proofs.build.Goals as goal

-- what the test of the settings says
settled : (b : Board) (x y : Bool) {r : Bool} → x ≡ numbers_ok b.settings (polygons b) → y ≡ list_ok b.list →
    (x && y) ≡ r → settings_ok b ≡ r
settled b x y e f g = rw (← e, ← f) g

pub judge-requires : goal.judge-requires
judge-requires c =
    let o = c.args.outlines.now in
    let b = board_of c.args.settings c.args.list.now o in
    let e = sym c.if-not-fit.ensures in
    record {
      sheets_fit = sheets-fit b o.components.now o.sheets.now _ e;
      points_fit = points-fit b o.components.now o.sheets.now _ e;
    }

pub invariant_of-board : goal.invariant_of-board
invariant_of-board c =
    let o = c.args.outlines.now in
    let b = board_of c.args.settings c.args.list.now o in
    let e = sym c.if-not-fit.ensures in
    let f = settled b _ _ c.numbers_ok.ensures c.list_ok.ensures c.if-not-numbers_ok-list_ok.false in
    record { fit = fit b o.components.now o.sheets.now _ e f (accepted []) [] (sym (c.in_ok-judge.ensures (accepted []))) }

pub cut-requires : goal.cut-requires
cut-requires c =
    let o = c.args.outlines.now in
    let b = board_of c.args.settings c.args.list.now o in
    tabled c.args.table.now (room_fits b o.components.now o.sheets.now _ (sym c.if-not-fit.ensures))
