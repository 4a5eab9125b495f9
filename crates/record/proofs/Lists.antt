-- Where the lists of a sound record stand: behind its first 16 bytes, one after the other.
use Rattle.std.proofs.Common.{◌≡◌, ℕ, ◌+◌, ◌≤◌, Bool, true, false, cond, eqb, leb, List, length, drop, Result, Ok, refl, sym, ap, subst, ◌∙◌, add_assoc, arith, leb-true, length-drop}
use Rattle.std.proofs.lemmas.List.{drop-drop}
use Rattle.std.specs.Prelude.{IsOkAnd}
use Rattle.std.specs.Int.{w8, w16, w32, w64}
use Rattle.refusals.specs.Limits.{default_level}
use Rattle.refusals.specs.declared.Refusal.{Refusal}
use Rattle.refusals.specs.declared.Refusal.TheVariants.{WrongLength, OutOfRange}
use Rattle.fields.specs.Cursor.{Cursor, start, past, require, number}
use Rattle.fields.specs.Codec.{any, ranged, pair}
use Rattle.fields.proofs.Laws.{bind_ok, require_ok, ok_is, each, number_from, number_room, tested_parts, pair_parts, named_parts}
use Rattle.record.specs.declared.board.Counts.{Counts}
use Rattle.record.specs.declared.board.Limits.{Limits}
use Rattle.record.specs.declared.board.Version.{Version}
use Rattle.record.specs.declared.board.Version.TheVariants.{One}
use Rattle.record.specs.Board.{Board, Settings, version_of, limits_of, means_default, level, settings, layer_list, polygon_list, split_list, body, board}
use Rattle.record.specs.Rows.{Rows}
use Rattle.record.specs.declared.board.Read.{Read}
use Rattle.record.specs.Reading.{counts_of, summary_of, checked, has_room, reading}
use Rattle.record.proofs.Boards.{found, reading_done}
use Rattle.record.proofs.Rounds.{known}

past_past : (j k : ℕ) (c : Cursor) → past k (past j c) ≡ past (j + k) c
past_past j k c = rw (drop-drop k j c.rest, add_assoc c.at j k) refl

-- ---- the settings take 11 bytes

level_end : (most : ℕ) (c : Cursor) {x : ℕ × Cursor} → (level most).reading c ≡ Ok x → x.1 ≡ past 1 c
level_end most c {x} e =
    let b = bind_ok (number w8 c) (λ n. cond (eqb n.0 means_default) (Ok (default_level, n.1)) (require (leb n.0 most) (OutOfRange c.at) (Ok n))) e in
    chosen b.0 (eqb b.0.0 means_default) b.2 ∙ (number_from w8 c {n = b.0.0} {new = b.0.1} b.1).1
  where
    chosen : (n : ℕ × Cursor) (b : Bool) → cond b (Ok (default_level, n.1)) (require (leb n.0 most) (OutOfRange c.at) (Ok n)) ≡ Ok x → x.1 ≡ n.1
    chosen n true h = let made : ℕ × Cursor = (default_level, n.1) in ap (λ (y : ℕ × Cursor). y.1) (sym (ok_is {x = made} h))
    chosen n false h = ap (λ (y : ℕ × Cursor). y.1) (sym (ok_is (require_ok (leb n.0 most) (OutOfRange c.at) (Ok n) h).1))

settings_end : (l : Limits) (c : Cursor) {x : Settings × Cursor} → (settings l).reading c ≡ Ok x → (x.1 ≡ past 11 c) × (11 ≤ length c.rest)
settings_end l c {x} e =
    let rest = pair (ranged w16 1 l.cap) (ranged w64 1 l.cell) in
    let p = pair_parts (level l.max_level) rest c (named_parts _ (λ (g : Settings). (g.level, (g.cap, g.target))) (pair (level l.max_level) rest) (λ x. refl) c e) in
    let q = pair_parts (ranged w16 1 l.cap) (ranged w64 1 l.cell) p.0 p.2 in
    let cap = (tested_parts _ (any w16) p.0 q.1).0 in
    let target = (tested_parts _ (any w64) q.0 q.2).0 in
    let one : p.0 ≡ past 1 c = level_end l.max_level c p.1 in
    let three : q.0 ≡ past 3 c = (number_from w16 p.0 cap).1 ∙ ap (past 2) one ∙ past_past 1 2 c in
    let room : 8 ≤ length (drop 3 c.rest) = subst (λ (d : Cursor). 8 ≤ length d.rest) three (number_room w64 q.0 target) in
    ((number_from w64 q.0 target).1 ∙ ap (past 8) three ∙ past_past 3 8 c, omega (arith, room, length-drop 3 c.rest))

-- ---- the lists

pub record Lists (c : Cursor) (b : Board) : Type 0 where
  pub behind_layers : Cursor
  pub behind_polygons : Cursor
  pub end : Cursor
  pub layers : (layer_list (limits_of One)).reading c ≡ Ok (b.layers, behind_layers)
  pub polygons : (polygon_list (limits_of One)).reading behind_layers ≡ Ok (b.polygons, behind_polygons)
  pub splits : split_list.reading behind_polygons ≡ Ok (b.splits, end)

body_lists : (c : Cursor) {x : Board × Cursor} → (body (limits_of One)).reading c ≡ Ok x → Lists (past 11 c) x.0 × (11 ≤ length c.rest)
unfolding body
body_lists c {x} e =
    let l = limits_of One in
    let shapes = pair (polygon_list l) split_list in
    let lists = pair (layer_list l) shapes in
    let p = pair_parts (settings l) lists c (named_parts _ (λ (b : Board). (b.settings, (b.layers, (b.polygons, b.splits)))) (pair (settings l) lists) (λ x. refl) c e) in
    let q = pair_parts (layer_list l) shapes p.0 p.2 in
    let r = pair_parts (polygon_list l) split_list q.0 q.2 in
    let front = settings_end l c p.1 in (
      record {
        behind_layers = q.0;
        behind_polygons = r.0;
        end = x.1;
        layers = ap (λ (d : Cursor). (layer_list l).reading d) (sym front.0) ∙ q.1;
        polygons = r.1;
        splits = r.2;
      },
      front.1,
    )

pub lists_of : (bytes : List ℕ) (b : Board) → board bytes ≡ Ok b → Lists (past 16 (start bytes)) b × (16 ≤ length bytes)
unfolding board
lists_of bytes b e =
    let first = bind_ok (number w8 (start bytes)) _ e in
    let version = bind_ok (version_of first.0.0) _ first.2 in
    let v = version.0 in
    let n = bind_ok (number w32 first.0.1) _ version.2 in
    let whole = require_ok (eqb n.0.0 (length n.0.1.rest)) (WrongLength first.0.1.at) _ n.2 in
    let read = bind_ok ((body (limits_of v)).reading n.0.1) (λ b. require (eqb (length b.1.rest) 0) (WrongLength b.1.at) (Ok b.0)) whole.1 in
    let ended = require_ok (eqb (length read.0.1.rest) 0) (WrongLength read.0.1.at) (Ok read.0.0) read.2 in
    let one : first.0.1 ≡ past 1 (start bytes) = (number_from w8 (start bytes) {n = first.0.0} {new = first.0.1} first.1).1 in
    let five : n.0.1 ≡ past 5 (start bytes) = (number_from w32 first.0.1 {n = n.0.0} {new = n.0.1} n.1).1 ∙ ap (past 4) one ∙ past_past 1 4 (start bytes) in
    let of_one : (body (limits_of One)).reading n.0.1 ≡ Ok read.0 = subst (λ (w : Version). (body (limits_of w)).reading n.0.1 ≡ Ok read.0) (known first.0.0 v version.1) read.1 in
    let there : (body (limits_of One)).reading (past 5 (start bytes)) ≡ Ok read.0 = ap (body (limits_of One)).reading (sym five) ∙ of_one in
    let lists = body_lists (past 5 (start bytes)) there in (
      subst (λ (c : Cursor). Lists c b) (past_past 5 11 (start bytes)) (subst (λ (y : Board). Lists (past 11 (past 5 (start bytes))) y) (ok_is {x = read.0.0} {y = b} ended.1) lists.0),
      omega (arith, lists.1, length-drop 5 bytes),
    )

-- ---- room for them

pub record Room (rows : Rows) (n : Counts) : Type 0 where
  pub layers : n.layers ≤ length rows.layers
  pub polygons : n.polygons ≤ length rows.polygons
  pub sheets : n.polygons ≤ length rows.sheets
  pub points : n.points ≤ length rows.points
  pub splits : n.splits ≤ length rows.splits

pub room_of : (rows : Rows) (n : Counts) → has_room rows n ≡ true → Room rows n
room_of rows n h =
    let a = each _ _ h in
    let b = each _ _ a.1 in
    let c = each _ _ b.1 in
    let d = each _ _ c.1 in
    record {
      layers = leb-true n.layers (length rows.layers) a.0;
      polygons = leb-true n.polygons (length rows.polygons) b.0;
      sheets = leb-true n.polygons (length rows.sheets) c.0;
      points = leb-true n.points (length rows.points) d.0;
      splits = leb-true n.splits (length rows.splits) d.1;
    }

pub ok_with : {A : Type 0} (r : Result A Refusal) (P : A → Type 0) {x : A} → r ≡ Ok x → P x → IsOkAnd r P
ok_with {A} r P e h = subst (λ (y : Result A Refusal). IsOkAnd y P) (sym e) h

-- ---- a record that was judged, and its room

pub record IsJudged (bytes : List ℕ) (rows : Rows) (s : Read) : Type 0 where
  pub board : Board
  pub summary : s ≡ summary_of board
  pub reads : reading bytes rows ≡ Ok board
  pub long : 16 ≤ length bytes
  pub lists : Lists (past 16 (start bytes)) board
  pub room : Room rows (counts_of board)

pub judged : (bytes : List ℕ) (rows : Rows) (s : Read) → Ok s ≡ checked (board bytes) → has_room rows s.counts ≡ true → IsJudged bytes rows s
judged bytes rows s h enough =
    let b = found (board bytes) s h in
    let there = lists_of bytes b.0 b.1 in
    record {
      board = b.0;
      summary = b.2;
      reads = reading_done bytes rows s b.0 h enough b.1;
      long = there.1;
      lists = there.0;
      room = room_of rows (counts_of b.0) (ap (λ (x : Read). has_room rows x.counts) (sym b.2) ∙ enough);
    }
