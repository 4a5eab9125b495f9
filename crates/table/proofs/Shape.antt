-- The shape of a lent row, as a test and as facts. Assumes nothing.
use Rattle.std.proofs.Common.{ℕ, Bool, ◌+◌, ◌*◌, ◌/◌, ◌%◌, ◌^◌, ◌<◌, ◌≤◌, ◌≡◌, true, ◌&&◌, arith, leb, ltb, eqb, ℤ, length, List, leb-true, ltb-true, eqb-true, le-leb, eq-eqb}
use Rattle.refusals.specs.Limits.{widest_level, max_slots, max_polygons}
use Rattle.table.specs.declared.Head.{Head}
use Rattle.table.specs.Slots.{cell_at, in_slot}
use Rattle.table.specs.Mesh.{table, leaf_count}
use Rattle.table.specs.Formed.{holds_whole_slots, shape_ok, rest_zero, place_ok, kids_ok, cell_ok, cells_ok, well_formed}
use Rattle.table.proofs.All.{and_left, and_right, all-at}

pub record Shape (size n M : ℕ) : Type 0 where
  pub range : M ≤ widest_level
  pub whole : size % 8 ≡ 0
  pub slots : size / 8 ≤ max_slots
  pub count : n ≤ size / 8

module _ (size n M : ℕ) where
  pub shape_of : shape_ok size n M ≡ true → Shape size n M
  unfolding shape_ok
  shape_of e =
      let slotted = and_left (leb M widest_level && holds_whole_slots size) (leb n (size / 8)) e in
      let whole = and_right (leb M widest_level) (holds_whole_slots size) slotted in
      record {
        range = leb-true M widest_level (and_left (leb M widest_level) (holds_whole_slots size) slotted);
        whole = eqb-true (size % 8) 0 (and_left (eqb (size % 8) 0) (leb (size / 8) max_slots) whole);
        slots = leb-true (size / 8) max_slots (and_right (eqb (size % 8) 0) (leb (size / 8) max_slots) whole);
        count = leb-true n (size / 8) (and_right (leb M widest_level && holds_whole_slots size) (leb n (size / 8)) e);
      }

  pub of-shape : Shape size n M → shape_ok size n M ≡ true
  unfolding shape_ok
  of-shape s = simp (le-leb M widest_level s.range, eq-eqb (size % 8) 0 s.whole, le-leb (size / 8) max_slots s.slots, le-leb n (size / 8) s.count)

-- the count's slots lie in the row
pub within : (size n M : ℕ) → Shape size n M → n * 8 ≤ size
within size n M s = omega arith

-- ---- past the test of well-formedness: its four parts

pub record Parts (t : List ℤ) (head : Head) : Type 0 where
  pub shape : shape_ok (length t) head.count head.max_level ≡ true
  pub rest : rest_zero t head.count ≡ true
  pub cells : cells_ok t head.count head.max_level ≡ true
  pub leaves : head.leaves ≡ leaf_count (table t head.count)

module _ (t : List ℤ) (head : Head) where
  abbrev s : Bool
  s = shape_ok (length t) head.count head.max_level

  abbrev r : Bool
  r = rest_zero t head.count

  abbrev c : Bool
  c = cells_ok t head.count head.max_level

  abbrev l : Bool
  l = eqb head.leaves (leaf_count (table t head.count))

  pub formed-parts : well_formed t head ≡ true → Parts t head
  unfolding well_formed
  formed-parts e =
      let f = and_right s (r && (c && l)) e in
      let g = and_right r (c && l) f in
      record {
        shape = and_left s (r && (c && l)) e;
        rest = and_left r (c && l) f;
        cells = and_left c l g;
        leaves = eqb-true head.leaves (leaf_count (table t head.count)) (and_right c l g);
      }

  pub parts-formed : Parts t head → well_formed t head ≡ true
  unfolding well_formed
  parts-formed p = simp (p.shape, p.rest, p.cells, eq-eqb head.leaves (leaf_count (table t head.count)) p.leaves)

  pub formed-shape : well_formed t head ≡ true → Shape (length t) head.count head.max_level
  formed-shape e = shape_of (length t) head.count head.max_level (formed-parts e).shape

  pub formed-within : well_formed t head ≡ true → head.count * 8 ≤ length t
  formed-within e = within (length t) head.count head.max_level (formed-shape e)

  pub formed-poly : well_formed t head ≡ true → (i : ℕ) → i < head.count → (cell_at t i).poly < max_polygons
  unfolding cells_ok cell_ok
  formed-poly e i h =
      let n = head.count in
      let M = head.max_level in
      let c = cell_at t i in
      let ok = all-at (cell_ok t n M) n (formed-parts e).cells i h in
      let placed = and_left (in_slot t i && leb c.level M && ltb c.poly max_polygons && place_ok t n (2 ^ (M + 1)) i c) (kids_ok t n M i c) ok in
      let small = and_left (in_slot t i && leb c.level M && ltb c.poly max_polygons) (place_ok t n (2 ^ (M + 1)) i c) placed in
      ltb-true c.poly max_polygons (and_right (in_slot t i && leb c.level M) (ltb c.poly max_polygons) small)

-- the bounds, in a form that the prover takes up where the test stands
pub shape_bounds : (size n M : ℕ) → shape_ok size n M ≡ true
    → (shape_ok size n M ≡ true) × (n * 8 ≤ size) × (n ≤ max_slots) × (M ≤ widest_level) × (size % 8 ≡ 0)
shape_bounds size n M e = let s = shape_of size n M e in (e, within size n M s, omega arith, s.range, s.whole)
