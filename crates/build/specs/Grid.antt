-- The rules' "Rings to roots", from a strip to its cells.
use Rattle.std.specs.Prelude.{ℕ, ◌+◌, ◌-◌, ◌*◌, ◌/◌, ◌%◌, min, max, Bool, ◌&&◌, List, map}
use Rattle.std.specs.Prelude.{ℤ, Option, None, Some, find, ◌==◌, if◌then◌else◌, slice_index}
use Rattle.std.specs.Int.{div_ceil}
use Rattle.std.specs.Option.{option_map}
use Rattle.std.specs.List.{flat_map, list_all, range_with_len}
use Rattle.table.specs.Mesh.{Cell, slot_numbers}
use Rattle.strips.specs.declared.walk.Strip.{Strip}
use Rattle.build.specs.declared.grid.Cut.{Cut}

abbrev pub width : Strip → ℕ
width s = s.x1 - s.x0

abbrev pub height : Strip → ℕ
height s = s.y1 - s.y0

-- "nx = ceil(w/c), held within 1 to cap"
unfoldable pub held_at : ℕ → ℕ → ℕ → ℕ
held_at cap c w = max 1 (min cap (div_ceil w c))

-- into how many cells a strip is cut each way
abbrev pub cut_of : ℕ → ℕ → Strip → Cut
cut_of cap c s = record { nx = held_at cap c (width s); ny = held_at cap c (height s) }

-- a root: its box, offset as a cell's, and its polygon
pub record Root : Type 0 where
  pub x0 : ℕ
  pub y0 : ℕ
  pub x1 : ℕ
  pub y1 : ℕ
  pub poly : ℕ

abbrev pub boxed : ℕ → Strip → Root
boxed poly b = record { x0 = b.x0; y0 = b.y0; x1 = b.x1; y1 = b.y1; poly = poly }

-- row j of a strip, as a strip
abbrev pub row_of : Strip → Cut → ℕ → Strip
row_of s g j = record { x0 = s.x0; y0 = s.y0 + height s / g.ny * j; x1 = s.x1; y1 = s.y0 + height s / g.ny * (j + 1) }

-- cell i of a row that is cut n times, as a strip
abbrev pub cell_of : Strip → ℕ → ℕ → Strip
cell_of r n i = record { x0 = r.x0 + width r / n * i; y0 = r.y0; x1 = r.x0 + width r / n * (i + 1); y1 = r.y1 }

-- the first cells of a row and the first rows of a strip: "row by row from the bottom, left to right"
unfoldable pub row_to : ℕ → Strip → ℕ → ℕ → List Root
row_to poly r n cells = map (λ i. boxed poly (cell_of r n i)) (range_with_len 0 cells)

unfoldable pub grid_to : ℕ → Strip → Cut → ℕ → List Root
grid_to poly s g rows = flat_map (λ j. row_to poly (row_of s g j) g.nx g.nx) (range_with_len 0 rows)

-- the roots of strips, one after another
unfoldable pub roots_in : ℕ → ℕ → ℕ → List Strip → List Root
roots_in poly cap c ss = flat_map (λ s. grid_to poly s (cut_of cap c s) (cut_of cap c s).ny) ss

-- "a base cell side isn't a multiple of 2^(max_level+1) ticks": the side of length w, cut n times, of the unit u
abbrev pub evenly : ℕ → ℕ → ℕ → Bool
evenly u n w = w % (n * u) == 0

abbrev pub even_strip : ℕ → Cut → Strip → Bool
even_strip u g s = evenly u g.nx (width s) && evenly u g.ny (height s)

unfoldable pub all_even : ℕ → ℕ → ℕ → List Strip → Bool
all_even u cap c ss = list_all (λ s. even_strip u (cut_of cap c s) s) ss

-- a root as a cell of the table: a leaf of level 0 with no parent
abbrev pub mesh_root : Root → Cell
mesh_root r =
    record {
      box = record { x0 = r.x0; y0 = r.y0; x1 = r.x1; y1 = r.y1 };
      level = 0;
      parent = None;
      kids = None;
      polygon = r.poly;
    }

-- the numbers of roots, one behind the other
unfoldable pub flat : List Root → List ℤ
flat rs = flat_map (λ r. slot_numbers (mesh_root r)) rs

-- the cell that the layer list gives a layer, if it has the layer
abbrev pub listed_at : List (List ℕ) → ℕ → Option ℕ
listed_at l layer = option_map (λ e. slice_index e 1) (find (λ e. slice_index e 0 == layer) l)

-- "cell of a layer: 0 or unlisted: use the target"
abbrev pub cell_or : Option ℕ → ℕ → ℕ
cell_or None target = target
cell_or (Some cell) target = if cell == 0 then target else cell

abbrev pub size_of : List (List ℕ) → ℕ → ℕ → ℕ
size_of l layer target = cell_or (listed_at l layer) target
