-- A record's board as the calls behind the reader take it.
use denote.Ref.{Bor}
use Rattle.std.specs.Prelude.{ℕ, ◌^◌, ◌<◌, List, map, All, ℤ, Float, slice_index, Result}
use Rattle.build.specs.declared.Settings as Build
use Rattle.build.specs.Board as Outline
use Rattle.refusals.specs.declared.Refusal.{Refusal}
use Rattle.record.specs.declared.board.Settings.{Settings}
use Rattle.record.specs.Board.{Board, points_in}
use Rattle.record.specs.Rows.{entry_row, sheet_of, point_row, rings}
use Rattle.record.specs.Reading.{reading}
use Rattle.net_rows.specs.declared.rows.Polygons.{Polygons}
use Rattle.leafnet_text.specs.Rooms.{record_rows}

-- what a table and its net are made of
pub record Given : Type 0 where
  pub board : Outline.Board
  -- of each polygon its component and its sheet resistance
  pub components : List ℕ
  pub sheets : List Float
  pub splits : List ℕ

abbrev pub given : Build.Settings → List (List ℕ) → List ℕ → List ℕ → List Float → List ℕ → List (List ℤ) → List ℕ → Given
given settings list layers components sheets counts points splits =
    record { board = Outline.board settings list layers counts points; components = components; sheets = sheets; splits = splits }

abbrev pub settings_of : Settings → Build.Settings
settings_of s = record { max_level = s.level; cap = s.cap; target = s.target }

-- what a record's board gives
abbrev pub given_by : Board → Given
given_by b =
    given (settings_of b.settings) (map entry_row b.layers) (map (λ p. p.layer) b.polygons) (map (λ p. p.component) b.polygons) (map sheet_of b.polygons)
    (map points_in b.polygons) (map point_row (rings b.polygons)) b.splits

-- numbers as a row that lies anywhere
abbrev lent : List ℕ → Bor (List ℕ)
lent numbers = record { ref_ptr = (0, 0); now = numbers }

-- the polygons in rows as the network call is lent them
abbrev pub polygons_in : List ℕ → List ℕ → Polygons
polygons_in layers components = record { layers = lent layers; components = lent components }

abbrev pub polygons_of : Given → Polygons
polygons_of g = polygons_in g.board.layers g.components

-- the board of a record, or the refusal: 6 for one that has more than there is room for, once all of it is judged
abbrev pub board_in : List ℕ → Result Board Refusal
board_in s = reading s record_rows

-- the numbers at one place of each row
abbrev pub column : ℕ → List (List ℕ) → List ℕ
column k = map (λ row. slice_index row k)

-- of each polygon the layer has 16 bits and the component 32
pub record AreNarrow (rows : List (List ℕ)) : Type 0 where
  pub layer : All (λ row. slice_index row 0 < 2 ^ 16) rows
  pub component : All (λ row. slice_index row 1 < 2 ^ 32) rows
