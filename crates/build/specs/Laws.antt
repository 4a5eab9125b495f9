-- Laws of build. Each is the contract of a function of src/laws.rt.
use Rattle.std.specs.Prelude.{ℕ, ◌-◌, ◌*◌, ◌<◌, ◌≤◌, ◌≡◌, true, List, length, None, Result, ℤ, Float, All}
use Rattle.std.specs.Prelude.{AllPairs, sum_by}
use Rattle.refusals.specs.declared.Refusal.{Refusal}
use Rattle.refusals.specs.Said.{accepted}
use Rattle.table.specs.declared.Head.{Head}
use Rattle.table.specs.Mesh.{at, table}
use Rattle.table.specs.Formed.{WellFormed}
use Rattle.table.specs.Rows.{head_values}
use Rattle.table.specs.Leaves.{leaf_at}
use Rattle.strips.specs.declared.walk.Strip.{Strip}
use Rattle.build.specs.Grid.{Root, width, height, cut_of, grid_to}
use Rattle.build.specs.Board.{Board, polygons, size_at, strips_at}
use Rattle.build.specs.Says.{built_said, roots_head, build_says, build_leaves}

-- what a call of `build` comes to: its answer, and what the lent table holds then
pub record Outcome : Type 0 where
  pub answer : Result Head Refusal
  pub table : List ℤ

-- the contract of `build` allows it for this board and this table
pub record IsAllowed (b : Board) (components : List ℕ) (sheets : List Float) (before : List ℤ) (outcome : Outcome)
    : Type 0 where
  pub said : built_said outcome.answer ≡ build_says b components sheets (length before)
  pub left : outcome.table ≡ build_leaves b components sheets before

abbrev pub OneOutcome : Type 0
OneOutcome =
    (b : Board) (components : List ℕ) (sheets : List Float) (before : List ℤ) (x y : Outcome)
    → IsAllowed b components sheets before x → IsAllowed b components sheets before y → x ≡ y

-- n roots are accepted of this board, in a table of this length
abbrev pub Accepts : Board → List ℕ → List Float → ℕ → ℕ → Type 0
Accepts b components sheets size n = build_says b components sheets size ≡ accepted (head_values (roots_head b n))

-- the roots of one strip
abbrev pub strip_roots : ℕ → ℕ → ℕ → Strip → List Root
strip_roots polygon cap cell s = grid_to polygon s (cut_of cap cell s) (cut_of cap cell s).ny

-- the area of all roots of a list
unfoldable pub area_of : List Root → ℕ
area_of rs = sum_by (λ r. (r.x1 - r.x0) * (r.y1 - r.y0)) rs

-- no part of the root lies outside the strip
pub record IsWithin (s : Strip) (r : Root) : Type 0 where
  pub left : s.x0 ≤ r.x0
  pub right : r.x1 ≤ s.x1
  pub bottom : s.y0 ≤ r.y0
  pub top : r.y1 ≤ s.y1

-- some place lies inside both; a common side or corner is no such place
pub record Overlap (a b : Root) : Type 0 where
  pub left : a.x0 < b.x1
  pub right : b.x0 < a.x1
  pub bottom : a.y0 < b.y1
  pub top : b.y0 < a.y1

-- together the roots are the strip: its area exactly, none of them outside it, no two over each other
pub record IsTiledBy (s : Strip) (rs : List Root) : Type 0 where
  pub area : area_of rs ≡ width s * height s
  pub inside : All (IsWithin s) rs
  pub apart : AllPairs (λ a b. ¬ Overlap a b) rs

-- each strip of each polygon of an accepted board is tiled by its roots
abbrev pub StripsAreTiled : Type 0
StripsAreTiled =
    (b : Board) (components : List ℕ) (sheets : List Float) (size n : ℕ) → Accepts b components sheets size n
    → (p : ℕ) → p < polygons b
    → All (λ s. IsTiledBy s (strip_roots p b.settings.cap (size_at b p) s)) (strips_at b p)

-- a well-formed table in which every cell is a leaf and a root
pub record IsTableOfRoots (t : List ℤ) (head : Head) : Type 0 where
  pub formed : WellFormed t head
  pub leaves : (i : ℕ) → i < head.count → leaf_at t i ≡ true
  pub roots : (i : ℕ) → i < head.count → (at (table t head.count) i).parent ≡ None

-- what an accepted call leaves is such a table
abbrev pub LeavesTablesOfRoots : Type 0
LeavesTablesOfRoots =
    (b : Board) (components : List ℕ) (sheets : List Float) (before : List ℤ) (n : ℕ)
    → Accepts b components sheets (length before) n
    → IsTableOfRoots (build_leaves b components sheets before) (roots_head b n)
