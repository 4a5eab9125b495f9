-- Cells by name, a root's id and the route of quadrants from it; splittings as tests on names; and the coarsest one
-- that keeps a table's splits, goes no deeper than max_level, and has no two leaves that share an edge and differ by
-- more than k levels. Nothing here knows of the passes.
use Rattle.std.specs.Prelude.{ℕ, ◌+◌, ◌≤◌, ◌<◌, ◌≡◌, Bool, true, false, not, List, [], ◌∷◌, length, Option, None, Some}
use Rattle.std.specs.Prelude.{is_none, option_map, option_and_then}
use Rattle.std.specs.Bool.{then_some}
use Rattle.std.specs.Option.{option_map_or}
use Rattle.cell.specs.Boxes.{Box, Quad, num, quadrant, shares_edge}
use Rattle.table.specs.Mesh.{Cell, at}
use Rattle.table.specs.Formed.{Formed}

-- the quadrants from the root, the deepest first
abbrev pub Route : Type 0
Route = List Quad

-- whether the cell of a root and a route is split
abbrev pub Splitting : Type 0
Splitting = ℕ → Route → Bool

-- the roots' boxes, by id
abbrev pub Roots : Type 0
Roots = ℕ → Option Box

-- the box of the cell at a route from the box A
abbrev pub place : Box → Route → Box
place A [] = A
place A (q ∷ p) = quadrant (place A p) q

-- the name stands for a cell: a root, or a child of a cell that is split
abbrev pub Stands : Splitting → ℕ → Route → Type 0
Stands S r [] = Unit {0}
Stands S r (q ∷ p) = S r p ≡ true

pub record Leaf (R : Roots) (S : Splitting) (r : ℕ) (p : Route) (B : Box) : Type 0 where
  pub root : Box
  pub known : R r ≡ Some root
  pub placed : place root p ≡ B
  pub stands : Stands S r p
  pub whole : S r p ≡ false

-- a splitting of the roots R, of split cells down to level M - 1, in which a leaf is finer than one that it shares an
-- edge with by at most k levels
pub record Admissible (k M : ℕ) (R : Roots) (S : Splitting) : Type 0 where
  pub rooted : (r : ℕ) (p : Route) → S r p ≡ true → (A : Box) × (R r ≡ Some A)
  pub closed : (r : ℕ) (q : Quad) (p : Route) → S r (q ∷ p) ≡ true → S r p ≡ true
  pub deep : (r : ℕ) (p : Route) → S r p ≡ true → length p < M
  pub even : (r s : ℕ) (p q : Route) (A B : Box) → Leaf R S r p A → Leaf R S s q B → shares_edge A B ≡ true
      → length p ≤ length q + k

infix 20 ◌⊆◌
-- S splits what T splits
abbrev pub ◌⊆◌ : Splitting → Splitting → Type 0
T ⊆ S = (r : ℕ) (p : Route) → T r p ≡ true → S r p ≡ true

-- C is the coarsest admissible splitting that keeps T's splits: any other splits each cell that C splits
pub record Coarsest (k M : ℕ) (R : Roots) (T C : Splitting) : Type 0 where
  pub keeps : T ⊆ C
  pub admissible : Admissible k M R C
  pub least : (S : Splitting) → Admissible k M R S → T ⊆ S → C ⊆ S

-- the splitting S of the roots R has n cells: they can be numbered below n, each once
pub record HasCells (R : Roots) (S : Splitting) (n : ℕ) : Type 0 where
  pub root : ℕ → ℕ
  pub route : ℕ → Route
  pub known : (i : ℕ) → i < n → (A : Box) × (R (root i) ≡ Some A)
  pub stands : (i : ℕ) → i < n → Stands S (root i) (route i)
  pub once : (i j : ℕ) → i < n → j < n → root i ≡ root j → route i ≡ route j → i ≡ j
  pub all : (r : ℕ) (p : Route) (A : Box) → R r ≡ Some A → Stands S r p
      → (i : ℕ) × (i < n) × (root i ≡ r) × (route i ≡ p)

-- ---- of a table: its roots, the id of a name, and its splitting

unfoldable pub roots_of : List Cell → Roots
roots_of t r = then_some (is_none (at t r).parent) (at t r).box

abbrev pub plus : Option ℕ → Quad → Option ℕ
plus kids q = option_map (λ f. f + num q) kids

abbrev pub kid_of : List Cell → Option ℕ → Quad → Option ℕ
kid_of t cell q = option_and_then (λ i. plus (at t i).kids q) cell

unfoldable pub find : List Cell → ℕ → Route → Option ℕ
find t r [] = then_some (is_none (at t r).parent) r
find t r (q ∷ p) = kid_of t (find t r p) q

abbrev pub split_in : List Cell → Option ℕ → Bool
split_in t cell = option_map_or (λ i. not (is_none (at t i).kids)) cell false

unfoldable pub splitting : List Cell → Splitting
splitting t r p = split_in t (find t r p)

-- a leaf of the table has the box B
pub record HasLeaf (t : List Cell) (B : Box) : Type 0 where
  pub id : ℕ
  pub inside : id < length t
  pub whole : (at t id).kids ≡ None
  pub box : (at t id).box ≡ B

-- ---- what balance (k is 1) and conform (k is 0) are to come to

-- the table u, of the same roots, has the coarsest splitting that keeps t's splits
pub record Evens (k M : ℕ) (t u : List Cell) : Type 0 where
  pub formed : Formed M u
  pub roots : (r : ℕ) → roots_of u r ≡ roots_of t r
  pub coarsest : Coarsest k M (roots_of t) (splitting t) (splitting u)

-- the coarsest splitting has n cells
pub record Needs (k M : ℕ) (t : List Cell) (n : ℕ) : Type 0 where
  pub splits : Splitting
  pub coarsest : Coarsest k M (roots_of t) (splitting t) splits
  pub cells : HasCells (roots_of t) splits n
