-- Which rows a pass has to look at: those with a mark, which is set wherever a pair of the row can be due.
use Rattle.std.specs.Prelude.{ℕ, ◌+◌, ◌<◌, ◌≤◌, Bool, IsTrue, IsFalse, List, length}
use Rattle.table.specs.Mesh.{Cell}
use Rattle.coarsest.specs.declared.Engine.{Engine}
use Rattle.coarsest.specs.declared.Engine.TheVariants.{Balancing, Conforming}
use Rattle.coarsest.specs.Passes.{is_due, difference}
use Rattle.search.specs.declared.marks.Marks.{Marks}
use Rattle.search.specs.Marks.{mark_at}
use Rattle.even.specs.declared.evener.Evener.{Evener}

-- whether the pair (a, b) has a split
abbrev pub pair_due : Evener → List Cell → ℕ → ℕ → Bool
pair_due s t a b = is_due s.engine (difference s.engine) t a b

-- each row with a pair that is due has a mark
abbrev pub Watched : Evener → List Cell → Marks → Type 0
Watched s t marks = (a b : ℕ) → a < length t → b < length t → IsTrue (pair_due s t a b) → IsTrue (mark_at marks a)

-- no pair of the first n cells is due
abbrev pub Settled : Evener → List Cell → ℕ → Type 0
Settled s t n = (a b : ℕ) → a < n → b < n → IsFalse (pair_due s t a b)

-- the levels of the leaves whose rows a new leaf of level l can concern
abbrev pub Reaches : Engine → ℕ → ℕ → ℕ → ℕ → Type 0
Reaches Balancing k M l x = (l + k < x) × (x ≤ M)
Reaches Conforming k M l x = x + k < l

-- y has a mark, and so has each row that has y due
pub record Met (s : Evener) (t : List Cell) (marks : Marks) (y : ℕ) : Type 0 where
  pub own : IsTrue (mark_at marks y)
  pub others : (a : ℕ) → a < length t → IsTrue (pair_due s t a y) → IsTrue (mark_at marks a)
