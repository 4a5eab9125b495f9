-- What the code reads of a slot, as the cells have it, and how a walk over the leaves goes on. Assumes nothing.
use Rattle.std.proofs.Common.{◌≡◌, ℕ, zero, suc, ◌+◌, ◌-◌, ◌/◌, ◌<◌, ◌≤◌, Bool, true, false, cond, List, ◌∷◌, ℤ, length, filter, refl, sym, ap, ◌∙◌, arith, eqb, is_none, Some, None}
use Rattle.std.specs.Prelude.{if◌then◌else◌}
use Rattle.std.specs.List.{range_with_len}
use Rattle.refusals.specs.Limits.{widest_level, max_slots}
use Rattle.cell.specs.Cells.{no_cell}
use Rattle.table.specs.declared.Head.{Head}
use Rattle.table.specs.Slots.{cell_at}
use Rattle.table.specs.Mesh.{Cell, at, table, is_leaf, opt}
use Rattle.table.specs.Leaves.{leaf_at}
use Rattle.table.specs.Rows.{IsTable}
use Rattle.table.proofs.Cells.{length-table, at_table}
use Rattle.table.proofs.Shape.{formed-parts, formed-shape}
use Rattle.table.proofs.Counting.{leaf_count-few}

-- the bounds that a table keeps, in a form that the prover takes up where the test stands
pub table_bounds : (row : List ℤ) (head : Head) → IsTable row head
    → IsTable row head × (head.count ≤ length row / 8) × (length row / 8 ≤ max_slots) × (head.max_level ≤ widest_level) × (head.leaves ≤ head.count)
table_bounds row head e =
    let s = formed-shape row head e in
    (e, s.count, s.slots, s.range, omega (arith, (formed-parts row head e).leaves, leaf_count-few (table row head.count), length-table row head.count))

is_none-if : (b : Bool) (v : ℕ) → is_none (if b then None else Some v) ≡ b
is_none-if true v = refl
is_none-if false v = refl

module _ (t : List ℤ) (n i : ℕ) (inside : i < n) where
  pub level_read : (cell_at t i).level ≡ (at (table t n) i).level
  level_read = ap (λ (c : Cell). c.level) (sym (at_table t n i inside))

  pub polygon_read : (cell_at t i).poly ≡ (at (table t n) i).polygon
  polygon_read = ap (λ (c : Cell). c.polygon) (sym (at_table t n i inside))

  kids_read : opt (cell_at t i).first ≡ (at (table t n) i).kids
  kids_read = ap (λ (c : Cell). c.kids) (sym (at_table t n i inside))

  pub leaf_read : leaf_at t i ≡ is_leaf (table t n) i
  unfolding leaf_at
  leaf_read = sym (is_none-if (eqb (cell_at t i).first no_cell) (cell_at t i).first) ∙ ap is_none kids_read

-- what the polygon of a leaf is read from
pub ruleset runs_read = (leaf_read, polygon_read)

-- of the ids from i on that pass a test the first is i, or they are those from the next on
module _ (p : ℕ → Bool) (n i : ℕ) (inside : i < n) where
  abbrev left : ℕ → List ℕ
  left j = filter p (range_with_len j (n - j))

  next_left : left i ≡ cond (p i) (i ∷ left (i + 1)) (left (i + 1))
  next_left = let e : n - i ≡ suc (n - (i + 1)) = omega arith in ap (λ k. filter p (range_with_len i k)) e

  pub taken_left : p i ≡ true → left i ≡ i ∷ left (i + 1)
  taken_left e = next_left ∙ ap (λ b. cond b (i ∷ left (i + 1)) (left (i + 1))) e

  pub skipped_left : p i ≡ false → left i ≡ left (i + 1)
  skipped_left e = next_left ∙ ap (λ b. cond b (i ∷ left (i + 1)) (left (i + 1))) e

-- at most one an id
pub few_pass : (p : ℕ → Bool) (j k : ℕ) → length (filter p (range_with_len j k)) ≤ k
few_pass p j zero = omega arith
few_pass p j (suc k) = by (p j) (few_pass p (j + 1) k)
  where
    by : (b : Bool) → length (filter p (range_with_len (j + 1) k)) ≤ k
        → length (cond b (j ∷ filter p (range_with_len (j + 1) k)) (filter p (range_with_len (j + 1) k))) ≤ suc k
    by true h = omega arith
    by false h = omega arith
