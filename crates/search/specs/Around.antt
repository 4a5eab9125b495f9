-- Who is to be split for a cell, and who asks for it.
use Rattle.std.specs.Prelude.{ℕ, Bool}
use Rattle.table.specs.Tables.{cells}
use Rattle.coarsest.specs.Passes.{due}
use Rattle.search.specs.declared.around.Around.{Around}

-- the leaf c is to be split for the cell
abbrev pub owes : Around → ℕ → ℕ → Bool
owes s k c = due k (cells s.table) s.cell c

-- the leaf c asks for the cell to be split
abbrev pub asks : Around → ℕ → ℕ → Bool
asks s k c = due k (cells s.table) c s.cell
