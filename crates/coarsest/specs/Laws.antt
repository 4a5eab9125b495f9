-- The laws of the passes, for both engines and every allowed difference k of levels, and of the cuts that they make.
-- crates/coarsest/src/laws.rt promises each.
use Rattle.std.specs.Prelude.{ℕ, ◌+◌, ◌*◌, ◌-◌, ◌<◌, ◌≡◌, ◌↔◌, ◌||◌, ◌⊎◌, true, false, List}
use Rattle.std.specs.Prelude.{Some, length, Contains}
use Rattle.cell.specs.Boxes.{Box, Quad, num, mid}
use Rattle.table.specs.Mesh.{Cell, at, leaf_count}
use Rattle.table.specs.Formed.{Formed}
use Rattle.coarsest.specs.declared.Engine.{Engine}
use Rattle.coarsest.specs.Passes.{is_due, pass, evened}
use Rattle.coarsest.specs.Names.{Route, Splitting, ◌⊆◌, Coarsest, HasLeaf, Needs, place, roots_of, find}
use Rattle.coarsest.specs.Names.{splitting}
use Rattle.coarsest.specs.InTurn.{Name, EachInTurn, SameLeaves, split_in_turn}

-- the passes end in the coarsest splitting that keeps the table's splits
abbrev pub CoarsestIsReached : Type 0
CoarsestIsReached =
    (e : Engine) (k M : ℕ) (t : List Cell) → Formed M t
    → Coarsest k M (roots_of t) (splitting t) (splitting (evened e k M t))

-- and every coarsest splitting is that one
abbrev pub CoarsestIsOne : Type 0
CoarsestIsOne =
    (e : Engine) (k M : ℕ) (t : List Cell) → Formed M t
    → (C : Splitting) → Coarsest k M (roots_of t) (splitting t) C
    → (r : ℕ) (p : Route) → C r p ≡ splitting (evened e k M t) r p

-- a pass over what they end in splits nothing
abbrev pub PassesEnd : Type 0
PassesEnd = (e : Engine) (k M : ℕ) (t : List Cell) → Formed M t → pass e k (evened e k M t) ≡ evened e k M t

-- what they end in is well formed
abbrev pub StaysFormed : Type 0
StaysFormed = (e : Engine) (k M : ℕ) (t : List Cell) → Formed M t → Formed M (evened e k M t)

-- and has the table's roots
abbrev pub KeepsRoots : Type 0
KeepsRoots =
    (e : Engine) (k M : ℕ) (t : List Cell) → Formed M t → (r : ℕ) → roots_of (evened e k M t) r ≡ roots_of t r

-- the two tables have the same roots
abbrev pub SameRoots : List Cell → List Cell → Type 0
SameRoots t u = (r : ℕ) → roots_of t r ≡ roots_of u r

-- tables of equal roots and equal splittings have equal leaves, as rectangles: what one has the other has, too
abbrev pub SplittingTellsLeaves : Type 0
SplittingTellsLeaves =
    (M : ℕ) (t u : List Cell) → Formed M t → Formed M u → SameRoots t u
    → ((r : ℕ) (p : Route) → splitting t r p ≡ splitting u r p) → (B : Box) → HasLeaf t B → HasLeaf u B

-- if one table splits what another splits, so do the tables that they end in, whichever engine each is given to
abbrev pub MoreSplitsEndFiner : Type 0
MoreSplitsEndFiner =
    (e d : Engine) (k M : ℕ) (t u : List Cell) → Formed M t → Formed M u → SameRoots t u
    → splitting t ⊆ splitting u → splitting (evened e k M t) ⊆ splitting (evened d k M u)

-- u is t with more splits, and w is the evened t with u's splits: u and w end in the same
abbrev pub PartsEndTheSame : Type 0
PartsEndTheSame =
    (e : Engine) (k M : ℕ) (t u w : List Cell) → Formed M t → Formed M u → Formed M w → SameRoots t u → SameRoots w u
    → splitting t ⊆ splitting u
    → ((r : ℕ) (p : Route) → splitting w r p ≡ (splitting (evened e k M t) r p || splitting u r p))
    → (r : ℕ) (p : Route) → splitting (evened e k M u) r p ≡ splitting (evened e k M w) r p

-- every cell has one name, which tells where it lies and its level
abbrev pub OneName : Type 0
OneName =
    (M : ℕ) (t : List Cell) → Formed M t → (i : ℕ) → i < length t
    → (r : ℕ) × (p : Route) × (find t r p ≡ Some i)
    × ((at t i).box ≡ place (at t r).box p) × ((at t i).level ≡ length p)
    × ((s : ℕ) (q : Route) → find t s q ≡ Some i → (s ≡ r) × (q ≡ p))

-- a list split in turn, each split possible or passed over, makes a well-formed table of the same roots, which splits
-- what was split and the listed cells, and no more
abbrev pub ListIsSplit : Type 0
ListIsSplit =
    (M : ℕ) (t : List Cell) (names : List Name) → Formed M t → EachInTurn M t names
    → Formed M (split_in_turn t names) × SameRoots (split_in_turn t names) t
    × ((r : ℕ) (p : Route)
    → (splitting (split_in_turn t names) r p ≡ true)
    ↔ ((splitting t r p ≡ true) ⊎ Contains names (record { root = r; route = p })))

-- to even a table out, to split a list more and to even it out again ends in the same leaves as to split the list first
-- and to even it out once. A split that is possible at first or passed over is so the second time, too
abbrev pub LaterSplitsEndTheSame : Type 0
LaterSplitsEndTheSame =
    (e : Engine) (k M : ℕ) (t : List Cell) (names : List Name) → Formed M t → EachInTurn M t names
    → EachInTurn M (evened e k M t) names
    × SameLeaves (evened e k M (split_in_turn (evened e k M t) names)) (evened e k M (split_in_turn t names))

-- the coarsest splitting has as many cells as the passes end in, and no other number of them
abbrev pub NeedsTheCellsReached : Type 0
NeedsTheCellsReached =
    (e : Engine) (k M : ℕ) (t : List Cell) → Formed M t → (n : ℕ) → Needs k M t n ↔ (n ≡ length (evened e k M t))

-- each split that they make is three leaves more, and four cells
abbrev pub EveningAddsThree : Type 0
EveningAddsThree =
    (e : Engine) (k M : ℕ) (t : List Cell)
    → (splits : ℕ) × (leaf_count (evened e k M t) ≡ leaf_count t + 3 * splits)
    × (length (evened e k M t) ≡ length t + 4 * splits)

-- after a pass no pair of two cells of its start has a split
abbrev pub PassSettles : Type 0
PassSettles =
    (e : Engine) (k : ℕ) (t : List Cell) (a b : ℕ) → a < length t → b < length t → is_due e k (pass e k t) a b ≡ false

-- the side from a to b is cut into two of one positive length, so that `mid` doesn't round
abbrev pub IsCutExactly : ℕ → ℕ → Type 0
IsCutExactly a b = (half : ℕ) × (0 < half) × (mid a b ≡ a + half) × (b ≡ a + half + half)

-- both sides of every cell are, of a split one and of one that isn't split yet
abbrev pub NoCutRounds : Type 0
NoCutRounds =
    (M : ℕ) (t : List Cell) → Formed M t → (i : ℕ) → i < length t
    → IsCutExactly (at t i).box.x0 (at t i).box.x1 × IsCutExactly (at t i).box.y0 (at t i).box.y1

-- so a child's sides are the halves of its parent's
abbrev pub ChildrenAreHalves : Type 0
ChildrenAreHalves =
    (M : ℕ) (t : List Cell) → Formed M t → (i f : ℕ) → (at t i).kids ≡ Some f → (q : Quad)
    → let parent = (at t i).box in let child = (at t (f + num q)).box in
    (2 * (child.x1 - child.x0) ≡ parent.x1 - parent.x0) × (2 * (child.y1 - child.y0) ≡ parent.y1 - parent.y0)
