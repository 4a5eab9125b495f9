-- What build says of a board that was read: the laws that src/records.rt promises. Definitions only.
use Rattle.std.specs.Prelude.{ℕ, ◌<◌, ◌*◌, ◌≡◌, Bool, true, ◌&&◌, List, [], ◌∷◌, map, slice_index_or, nat_le, IsTrue}
use Rattle.std.specs.Prelude.{Result, Ok, Err, pos}
use Rattle.refusals.specs.declared.Refusal.{Refusal}
use Rattle.refusals.specs.Said.{Said, accepted, refused, refusal}
use Rattle.record.specs.declared.board.Version.TheVariants.{One}
use Rattle.record.specs.declared.board.Point.{Point}
use Rattle.record.specs.Board as record_board
use Rattle.record.specs.Board.{points_in, record_of}
use Rattle.record.specs.Rows.{rows_for}
use Rattle.build.specs.Board as build_board
use Rattle.table.specs.Formed.{holds_whole_slots}
use Rattle.build.specs.Says.{build_says}
use Rattle.laws.specs.Eight.{answer}

-- the board as build is given it: the rows that it was read to, and its settings
abbrev pub given : record_board.Board → build_board.Board
given b =
    build_board.board (record { max_level = b.settings.level; cap = b.settings.cap; target = b.settings.target })
    (rows_for b).layers (map (λ p. p.layer) b.polygons) (map points_in b.polygons) (rows_for b).points

-- what build says of it, with its polygons' other rows
abbrev pub build_says_of : record_board.Board → ℕ → Said
build_says_of b = build_says (given b) (map (λ p. p.component) b.polygons) (rows_for b).sheets

-- accepted, or refused by 4, 5 or 6: by its rings, its cells or the room
abbrev pub is_taken : Said → Bool
is_taken (accepted values) = true
is_taken (refused number place) = nat_le 4 number && nat_le number 6

abbrev pub BuildTakesRecords : Type 0
BuildTakesRecords =
    (bytes : List ℕ) (b : record_board.Board) (size : ℕ)
    → ((i : ℕ) → slice_index_or bytes i 0 < 256) → record_board.board bytes ≡ Ok b → IsTrue (holds_whole_slots size)
    → IsTrue (is_taken (build_says_of b size))

-- ---- the level that 255 means

abbrev pub corner : ℕ → ℕ → Point
corner x y = record { x = pos x; y = pos y }

-- the record of one square, as large as the target, with this number for its level
unfoldable pub square_record : ℕ → ℕ → List ℕ
square_record level side =
    let square : record_board.Polygon = record {
      layer = 1;
      component = 0;
      sheet = 0x3ff0_0000_0000_0000;
      points = corner 0 0 ∷ corner side 0 ∷ corner side side ∷ corner 0 side ∷ [];
    } in
    record_of One
    (record {
      settings = record { level = level; cap = 256; target = side };
      layers = [];
      polygons = square ∷ [];
      splits = [];
    })

-- the reader's refusal, or what build says, in a row of 64 slots
abbrev pub built_of : Result record_board.Board Refusal → Said
built_of (Ok b) = build_says_of b (64 * 8)
built_of (Err e) = refusal e

unfoldable pub square_says : ℕ → ℕ → List ℕ
square_says level side = answer (built_of (record_board.board (square_record level side)))

-- "255 means the default, 4": the sides of a base cell are multiples of 32 ticks, where 16 are enough at level 3.
-- Accepted: one cell, one leaf, and the level
unfoldable pub level_cases : List (List ℕ)
level_cases =
    square_says 255 16
    ∷ square_says 255 32
    ∷ square_says 3 16
    ∷ square_says 255 48
    ∷ square_says 3 48
    ∷ square_says 4 32
    ∷ []

unfoldable pub level_cases_expected : List (List ℕ)
level_cases_expected =
    (5 ∷ 0 ∷ [])
    ∷ (0 ∷ 1 ∷ 1 ∷ 4 ∷ [])
    ∷ (0 ∷ 1 ∷ 1 ∷ 3 ∷ [])
    ∷ (5 ∷ 0 ∷ [])
    ∷ (0 ∷ 1 ∷ 1 ∷ 3 ∷ [])
    ∷ (0 ∷ 1 ∷ 1 ∷ 4 ∷ [])
    ∷ []

abbrev pub DefaultLevelCases : Type 0
DefaultLevelCases = level_cases ≡ level_cases_expected
