-- What the steps of the code promise one another. Internal.
use Rattle.std.specs.Prelude.{ℕ, ◌+◌, ◌-◌, ◌*◌, ◌/◌, ◌%◌, ◌<◌, ◌≤◌, min, ◌≡◌, true, false, List, [], ◌∷◌, ◌++◌, ℤ, pos}
use Rattle.std.specs.Prelude.{length, sum, take, drop, replicate, Option, Some, None, Result, Ok, Err, if◌then◌else◌, nat_lt}
use Rattle.refusals.specs.Limits.{widest_level, max_cap, max_cell, max_points, max_polygons, max_slots}
use Rattle.strips.specs.declared.walk.Strip.{Strip}
use Rattle.build.specs.declared.grid.Cut.{Cut}
use Rattle.build.specs.Board.{Board, ring_at, polygons, roots_of}
use Rattle.build.specs.Says.{roots_head, even_from, room_for, filled}
use Rattle.refusals.specs.declared.Refusal.{Refusal}
use Rattle.refusals.specs.Said.{Said, accepted, refused, refusal, said, if_accepted}
use Rattle.table.specs.Rows.{head_values}
use Rattle.build.specs.Grid.{Root, flat, all_even, roots_in, listed_at, cell_or}

-- roots put into the table from slot k on
unfoldable pub placed : List ℤ → ℕ → List Root → List ℤ
placed t k rs = take (k * 8) t ++ (flat rs ++ drop ((k + length rs) * 8) t)

-- the cap and the cell that a strip is cut by
pub record Sizes (cap c : ℕ) : Type 0 where
  pub some : 1 ≤ cap
  pub cap-fits : cap ≤ max_cap
  pub cell : 1 ≤ c
  pub cell-fits : c ≤ max_cell

-- how often a strip is cut
pub record Cuts (g : Cut) : Type 0 where
  pub x-some : 1 ≤ g.nx
  pub x_fits : g.nx ≤ max_cap
  pub y-some : 1 ≤ g.ny
  pub y-fits : g.ny ≤ max_cap

-- the table has n slots from k on, and no more slots than the limit
pub record Slotted (t : List ℤ) (k n : ℕ) : Type 0 where
  pub room : (k + n) * 8 ≤ length t
  pub few : length t ≤ max_slots * 8

abbrev pub more_of : ℕ → ℕ → ℕ → ℕ
more_of slots sum n = if nat_lt slots sum then sum else sum + n

-- two counts that are the same unless both are past the slots
abbrev pub SameTo : ℕ → ℕ → ℕ → Type 0
SameTo slots a b = min a (slots + 1) ≡ min b (slots + 1)

-- the roots of even strips on top of a count
pub record IsTally (u cap c slots before : ℕ) (ss : List Strip) (sum : ℕ) : Type 0 where
  pub even : all_even u cap c ss ≡ true
  pub counted : SameTo slots sum (before + length (roots_in 0 cap c ss))
  pub fits : sum ≤ max_slots + max_cap * max_cap

abbrev pub Tallied : ℕ → ℕ → ℕ → ℕ → ℕ → List Strip → Option ℕ → Type 0
Tallied u cap c slots before ss (Some sum) = IsTally u cap c slots before ss sum
Tallied u cap c slots before ss None = all_even u cap c ss ≡ false

-- a board that has been judged
pub record Fit (b : Board) : Type 0 where
  pub level : b.settings.max_level ≤ widest_level
  pub cap-some : 1 ≤ b.settings.cap
  pub cap-fits : b.settings.cap ≤ max_cap
  pub target-some : 1 ≤ b.settings.target
  pub target_fits : b.settings.target ≤ max_cell
  pub cells : (layer : ℕ) → cell_or (listed_at b.list layer) 0 ≤ max_cell
  pub rows : length b.layers ≡ length b.counts
  pub sums : sum b.counts ≡ length b.points
  pub few : (p : ℕ) → p < length b.counts → length (ring_at b.counts b.points p) ≤ max_points
  pub polys : length b.counts ≤ max_polygons

-- what the survey of a board answers: every side even, and the roots counted; or the first polygon with an uneven side
pub record IsSurvey (b : Board) (slots sum : ℕ) : Type 0 where
  pub even : (o : Said) → even_from b 0 (polygons b) o ≡ o
  pub counted : SameTo slots sum (length (roots_of b))

abbrev pub Surveyed : Board → ℕ → Result ℕ Refusal → Type 0
Surveyed b slots (Ok sum) = IsSurvey b slots sum
Surveyed b slots (Err x) = (o : Said) → even_from b 0 (polygons b) o ≡ refusal x

-- a table's shape
pub record Tabled (t : List ℤ) : Type 0 where
  pub whole : length t % 8 ≡ 0
  pub few : length t / 8 ≤ max_slots

-- what is said of an answer that is a number of roots
abbrev pub roots_said : Result ℕ Refusal → Said
roots_said = said (λ n. n ∷ [])

-- more roots than slots, or their number
abbrev pub room_in : ℕ → ℕ → Said
room_in slots n = if nat_lt slots n then refused 6 0 else accepted (n ∷ [])

-- what is said of a board of one polygon with these strips, and what it leaves
abbrev pub alone_says : ℕ → ℕ → ℕ → List Strip → ℕ → Said
alone_says u cap c ss slots = if all_even u cap c ss then room_in slots (length (roots_in 0 cap c ss)) else refused 5 0

abbrev pub alone_leaves : ℕ → ℕ → List Strip → ℕ → List ℤ
alone_leaves cap c ss size = flat (roots_in 0 cap c ss) ++ replicate (size - length (roots_in 0 cap c ss) * 8) (pos 0)

-- what is said of an answer that is the number of a board's roots
abbrev pub counted_said : Board → Result ℕ Refusal → Said
counted_said b = said (λ n. head_values (roots_head b n))

-- the roots of a judged board were cut into a table: 5 and 6, and the roots where neither is said
pub record IsCut (b : Board) (old new : List ℤ) (answer : Result ℕ Refusal) : Type 0 where
  pub says : counted_said b answer ≡ even_from b 0 (polygons b) (room_for b (length old / 8) (length (roots_of b)))
  pub slots : new ≡ if_accepted (counted_said b answer) (filled b (length old)) old
