-- When polygons and the cells of a table belong together. Definitions only.
use Rattle.std.specs.Prelude.{ℕ, Bool, ◌&&◌, ◌==◌, List, length, nat_lt}
use Rattle.std.specs.List.{list_all}
use Rattle.table.specs.Mesh.{Cell}

-- each cell is of one of the first polygons
abbrev pub polygons_below : ℕ → List Cell → Bool
polygons_below count cells = list_all (λ c. nat_lt c.polygon count) cells

-- the polygons have a layer and a component each, and no cell names a polygon past the last
abbrev pub polygons_fit : List Cell → List ℕ → List ℕ → Bool
polygons_fit cells layers components = length layers == length components && polygons_below (length layers) cells
