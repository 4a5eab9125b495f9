-- The record of the rows' board, in the two parts in which it is put.
use Rattle.std.proofs.Common.{ℕ, suc, ◌+◌, ◌-◌, ◌≡◌, refl, sym, ap, ◌∙◌, true, List, [], ◌∷◌, ◌++◌, append_assoc, arith, ℤ, Float, length, drop, length-append}
use Rattle.std.proofs.lemmas.List.{length-map}
use Rattle.std.specs.List.{flat_map}
use Rattle.std.specs.Int.{bytes_high_first}
use Rattle.record.specs.declared.board.Settings.{Settings}
use Rattle.record.specs.declared.board.Version.TheVariants.{One}
use Rattle.record.specs.Board.{Board, limits_of, polygon, body, record_of}
use Rattle.record.specs.Rows.{Rows}
use Rattle.record.specs.Puts.{entry_bytes, polygon_bytes, settings_bytes, lists_bytes}
use Rattle.record.specs.Writing.{entries_of, count_of, polygons_of, add_up, board_of, size_of}
use Rattle.fields.proofs.Stores.{bytes-length}
use Rattle.record.proofs.Turns.{entries-long, polygons-long, splits-long}

-- the lists of a board
abbrev pub board_lists : Board → List ℕ
board_lists b =
    (bytes_high_first 2 (length b.layers) ++ flat_map entry_bytes b.layers)
    ++ ((bytes_high_first 2 (length b.polygons) ++ flat_map polygon_bytes b.polygons)
    ++ (bytes_high_first 2 (length b.splits) ++ flat_map (bytes_high_first 4) b.splits))

-- what the description of a board spells
pub spelled : (b : Board) → (body (limits_of One)).spelling b ≡ settings_bytes b.settings ++ board_lists b
unfolding body polygon
spelled b = refl

pub settings-long : (g : Settings) → length (settings_bytes g) ≡ 11
settings-long g = refl

polygons-count : (ps : List (List ℕ)) (rs : List Float) (qs : List (List ℤ)) → length ps ≡ length rs → length (polygons_of ps rs qs) ≡ length ps
unfolding polygons_of
polygons-count [] rs qs h = refl
polygons-count (p ∷ ps) [] qs h = absurd (omega arith)
polygons-count (p ∷ ps) (r ∷ rs) qs h = ap suc (polygons-count ps rs (drop (count_of p) qs) (omega arith))

module _ (g : Settings) (rows : Rows) (same : length rows.polygons ≡ length rows.sheets) (adds : add_up rows.polygons (length rows.points) ≡ true) where
  lists-same : lists_bytes rows ≡ board_lists (board_of g rows)
  lists-same = rw (length-map rows.layers _, polygons-count rows.polygons rows.sheets rows.points same) refl

  rows_long : length (lists_bytes rows) + 16 ≡ size_of rows
  rows_long =
      let l1 = bytes_high_first 2 (length rows.layers) in
      let l2 = flat_map entry_bytes (entries_of rows.layers) in
      let p1 = bytes_high_first 2 (length rows.polygons) in
      let p2 = flat_map polygon_bytes (polygons_of rows.polygons rows.sheets rows.points) in
      let k1 = bytes_high_first 2 (length rows.splits) in
      let k2 = flat_map (bytes_high_first 4) rows.splits in
      omega (
        arith,
        length-append (l1 ++ l2) ((p1 ++ p2) ++ (k1 ++ k2)),
        length-append (p1 ++ p2) (k1 ++ k2),
        length-append l1 l2,
        length-append p1 p2,
        length-append k1 k2,
        bytes-length 2 (length rows.layers),
        bytes-length 2 (length rows.polygons),
        bytes-length 2 (length rows.splits),
        entries-long rows.layers,
        polygons-long rows.polygons rows.sheets rows.points same adds,
        splits-long rows.splits,
      )

  -- all that follows the length, and how long it is
  text : List ℕ
  text = (body (limits_of One)).spelling (board_of g rows)

  text_is : text ≡ settings_bytes g ++ lists_bytes rows
  unfolding text
  text_is = spelled (board_of g rows) ∙ ap (λ (l : List ℕ). settings_bytes g ++ l) (sym lists-same)

  text-long : length text ≡ size_of rows - 5
  text-long = ap length text_is ∙ omega (arith, length-append (settings_bytes g) (lists_bytes rows), settings-long g, rows_long)

  regroup : (a b c d : List ℕ) → (a ++ (b ++ c)) ++ d ≡ a ++ (b ++ (c ++ d))
  regroup a b c d = simp append_assoc

  pub record_is : (bytes_high_first 1 1 ++ (bytes_high_first 4 (size_of rows - 5) ++ settings_bytes g)) ++ lists_bytes rows ≡ record_of One (board_of g rows)
  unfolding record_of text
  record_is =
      regroup (bytes_high_first 1 1) (bytes_high_first 4 (size_of rows - 5)) (settings_bytes g) (lists_bytes rows)
      ∙ ap (λ (l : List ℕ). bytes_high_first 1 1 ++ (bytes_high_first 4 (size_of rows - 5) ++ l)) (sym text_is)
      ∙ ap (λ (k : ℕ). bytes_high_first 1 1 ++ (bytes_high_first 4 k ++ text)) (sym text-long)

  pub front_long : (k : ℕ) → 16 ≡ 0 + length (bytes_high_first 1 1 ++ (bytes_high_first 4 k ++ settings_bytes g))
  front_long k = refl

  pub record-long : length (record_of One (board_of g rows)) ≡ size_of rows
  record-long =
      let front = bytes_high_first 1 1 ++ (bytes_high_first 4 (size_of rows - 5) ++ settings_bytes g) in
      ap length (sym record_is) ∙ length-append front (lists_bytes rows) ∙ omega (arith, front_long (size_of rows - 5), rows_long)
