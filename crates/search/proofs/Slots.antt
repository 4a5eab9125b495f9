-- What the code reads of two slots, as the cells have it. Assumes nothing.
use Rattle.std.proofs.Common.{◌≡◌, ap₂, List, ℕ, ◌<◌, ℤ}
use Rattle.cell.specs.Cells.{box_of}
use Rattle.table.specs.Slots.{cell_at}
use Rattle.table.specs.Mesh.{Cell, at, table, mesh_cell}
use Rattle.table.proofs.Cells.{at_table}
use Rattle.coarsest.specs.Passes.{due_cells, due}
use Rattle.search.specs.Search.{meet}

module _ (t : List ℤ) (n : ℕ) where
  pub due-slots : (k f c : ℕ) → f < n → c < n → due k (table t n) f c ≡ due_cells k (mesh_cell (cell_at t f)) (mesh_cell (cell_at t c))
  unfolding due
  due-slots k f c hf hc = ap₂ (due_cells k) (at_table t n f hf) (at_table t n c hc)

  pub meet-slots : (a c : ℕ) → a < n → c < n → meet (at (table t n) a).box (at (table t n) c).box ≡ meet (box_of (cell_at t a)) (box_of (cell_at t c))
  meet-slots a c ha hc = ap₂ (λ (x y : Cell). meet x.box y.box) (at_table t n a ha) (at_table t n c hc)
