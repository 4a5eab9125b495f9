-- Two walks over the leaves, one along each axis, find together what one over all sides finds. Assumes nothing.
use Rattle.std.proofs.Common.{ℕ, zero, suc, ◌+◌, ◌<◌, ◌≤◌, ◌≡◌, refl, ◌∙◌, Bool, true, false, arith, List, [], ◌∷◌, filter, slice_get, Option, None, Some, ℤ, IsTrue}
use Rattle.std.specs.List.{filter_map, range_with_len, cons_option}
use Rattle.std.specs.Option.{option_map}
use Rattle.std.proofs.lemmas.Bool.Decides.{nat_tests}
use Rattle.cell.specs.declared.Cell.{Cell}
use Rattle.table.specs.declared.Head.{Head}
use Rattle.table.specs.Slots.{cell_at}
use Rattle.table.specs.Mesh.{is_leaf}
use Rattle.table.specs.Rows.{cells_in, leaves_in}
use Rattle.net_rows.specs.declared.rows.Node.{Node}
use Rattle.net_rows.specs.declared.rows.Edge.{Edge}
use Rattle.net_rows.specs.declared.axis.Axis.{Axis}
use Rattle.net_rows.specs.declared.axis.Axis.TheVariants.{Column, Row}
use Rattle.checks.specs.declared.asked.Class.{Class}
use Rattle.checks.specs.declared.asked.Scope.{Scope}
use Rattle.checks.specs.declared.asked.Scope.TheVariants.{Everywhere, ByLayer}
use Rattle.checks.specs.declared.asked.Side.{Side}
use Rattle.checks.specs.declared.asked.Hanging.{Hanging}
use Rattle.checks.specs.declared.walk.Sides.{Sides}
use Rattle.checks.specs.declared.walk.Sides.TheVariants.{All, Along}
use Rattle.checks.specs.declared.walk.Found.{Found}
use Rattle.checks.specs.Sides.{south, east, north, west}
use Rattle.checks.specs.Checks.{side_fault, leaf_fault, fault_by}
use Rattle.checks.specs.Scopes.{class_of}
use Rattle.checks.specs.Walks.{have, sides_along, GoesAlong, side_found, leaf_found, found_on, first_found, fault_of, comes_before, earlier}

-- ---- of any list

module _ {X : Type 0} (f : X → Option Found) where
  abbrev first : List X → Option Found
  first xs = slice_get (filter_map f xs) 0

  -- the first of the faults is the fault of the first find
  fault_first : (g : X → Option Hanging) → ((x : X) → fault_of (f x) ≡ g x) → (xs : List X) → fault_of (first xs) ≡ slice_get (filter_map g xs) 0
  fault_first g h [] = refl
  fault_first g h (x ∷ xs) = by (f x) refl (fault_first g h xs)
    where
      by : (o : Option Found) → f x ≡ o → fault_of (first xs) ≡ slice_get (filter_map g xs) 0 → fault_of (first (x ∷ xs)) ≡ slice_get (filter_map g (x ∷ xs)) 0
      by None q rest = rw (← h x, q) rest
      by (Some b) q rest = rw (← h x, q) refl

-- ---- of leaves by id, each of whose finds is its own

abbrev Own : (ℕ → Option Found) → Type 0
Own f = (i : ℕ) (a : Found) → f i ≡ Some a → a.leaf ≡ i

own_found : (leaf : ℕ) (o : Option (ℕ × Hanging)) (a : Found) → found_on leaf o ≡ Some a → a.leaf ≡ leaf
own_found leaf None a e = cc
own_found leaf (Some f) a e = cc

abbrev from : (ℕ → Bool) → ℕ → ℕ → List ℕ
from p start n = filter p (range_with_len start n)

-- what is found from a leaf on is of none before it
later : (p : ℕ → Bool) (f : ℕ → Option Found) → Own f → (start n : ℕ) (a : Found) → first f (from p start n) ≡ Some a → start ≤ a.leaf
later p f own start zero a e = absurd (let q = e in cc)
later p f own start (suc n) a e = by (p start) refl (f start) refl (later p f own (start + 1) n a)
  where
    by : (b : Bool) → p start ≡ b → (o : Option Found) → f start ≡ o → (first f (from p (start + 1) n) ≡ Some a → start + 1 ≤ a.leaf) → start ≤ a.leaf
    by false q o r rest = let h = rest (rw q at e) in omega arith
    by true q None r rest = let h = rest (rw (q, r) at e) in omega arith
    by true q (Some b) r rest = let h = own start a (r ∙ rw (q, r) at e) in omega arith

one_first : (a : Found) (o : Option Found) → ((b : Found) → o ≡ Some b → a.leaf < b.leaf) → earlier (Some a) o ≡ Some a
one_first a None h = refl
one_first a (Some b) h = let k : a.leaf < b.leaf = h b refl in grind (arith, nat_tests)

other_first : (a : Found) (o : Option Found) → ((b : Found) → o ≡ Some b → a.leaf < b.leaf) → earlier o (Some a) ≡ Some a
other_first a None h = refl
other_first a (Some b) h = let k : a.leaf < b.leaf = h b refl in grind (arith, nat_tests)

both : (a b : Found) (rest : List Found) → earlier (Some a) (Some b) ≡ slice_get (cons_option (earlier (Some a) (Some b)) rest) 0
both a b rest = by (comes_before b a) refl
  where
    by : (t : Bool) → comes_before b a ≡ t → earlier (Some a) (Some b) ≡ slice_get (cons_option (earlier (Some a) (Some b)) rest) 0
    by true t = rw t refl
    by false t = rw t refl

-- the first of a merged order is the earlier of the two firsts
merged : (p : ℕ → Bool) (f g h : ℕ → Option Found) → Own f → Own g → ((i : ℕ) → h i ≡ earlier (f i) (g i)) → (start n : ℕ)
    → earlier (first f (from p start n)) (first g (from p start n)) ≡ first h (from p start n)
merged p f g h of og e start zero = refl
merged p f g h of og e start (suc n) = by (p start) refl (f start) refl (g start) refl (merged p f g h of og e (start + 1) n)
  where
    by : (b : Bool) → p start ≡ b → (x : Option Found) → f start ≡ x → (y : Option Found) → g start ≡ y
        → earlier (first f (from p (start + 1) n)) (first g (from p (start + 1) n)) ≡ first h (from p (start + 1) n)
        → earlier (first f (from p start (suc n))) (first g (from p start (suc n))) ≡ first h (from p start (suc n))
    by false q x r y s rest = rw q rest
    by true q None r None s rest = rw (q, e start, r, s) rest
    by true q None r (Some b) s rest =
        rw (q, e start, r, s)
        (other_first b (first f (from p (start + 1) n)) (λ a k. let l = later p f of (start + 1) n a k in let o = og start b s in omega arith))
    by true q (Some a) r None s rest =
        rw (q, e start, r, s)
        (one_first a (first g (from p (start + 1) n)) (λ b k. let l = later p g og (start + 1) n b k in let o = of start a r in omega arith))
    by true q (Some a) r (Some b) s rest = rw (q, e start, r, s) (both a b (filter_map h (from p (start + 1) n)))

-- ---- of the sides of one leaf

abbrev first_of : Option Hanging → Option Hanging → Option Hanging → Option Hanging → Option (ℕ × Hanging)
first_of s e n w = slice_get (cons_option (tagged 0 s) (cons_option (tagged 1 e) (cons_option (tagged 2 n) (cons_option (tagged 3 w) [])))) 0
  where
    tagged : ℕ → Option Hanging → Option (ℕ × Hanging)
    tagged k o = option_map (λ h. (k, h)) o

four_merged : (leaf : ℕ) (s e n w : Option Hanging)
    → found_on leaf (first_of s e n w) ≡ earlier (found_on leaf (first_of None e None w)) (found_on leaf (first_of s None n None))
four_merged leaf (Some s) (Some e) n w = grind (arith, nat_tests)
four_merged leaf (Some s) None n (Some w) = grind (arith, nat_tests)
four_merged leaf (Some s) None n None = refl
four_merged leaf None (Some e) (Some n) w = grind (arith, nat_tests)
four_merged leaf None (Some e) None w = refl
four_merged leaf None None (Some n) (Some w) = grind (arith, nat_tests)
four_merged leaf None None (Some n) None = refl
four_merged leaf None None None (Some w) = refl
four_merged leaf None None None None = refl

four_faults : (leaf : ℕ) (s e n w : Option Hanging)
    → fault_of (found_on leaf (first_of s e n w)) ≡ slice_get (cons_option s (cons_option e (cons_option n (cons_option w [])))) 0
four_faults leaf (Some s) e n w = refl
four_faults leaf None (Some e) n w = refl
four_faults leaf None None (Some n) w = refl
four_faults leaf None None None (Some w) = refl
four_faults leaf None None None None = refl

module _ (nodes : List Node) (edges : List Edge) (class : Class) where
  abbrev lacks : Side → Option Hanging
  lacks s = side_fault nodes edges class s

  abbrev on_leaf : Sides → ℕ → Cell → Option Found
  on_leaf sides leaf c = found_on leaf (leaf_found nodes edges class sides c)

  leaf_merged : (leaf : ℕ) (c : Cell) → on_leaf All leaf c ≡ earlier (on_leaf (Along Column) leaf c) (on_leaf (Along Row) leaf c)
  unfolding leaf_found side_found
  leaf_merged leaf c = four_merged leaf (lacks (south c)) (lacks (east c)) (lacks (north c)) (lacks (west c))

  leaf_faults : (leaf : ℕ) (c : Cell) → fault_of (on_leaf All leaf c) ≡ leaf_fault nodes edges class c
  unfolding leaf_found side_found leaf_fault
  leaf_faults leaf c = four_faults leaf (lacks (south c)) (lacks (east c)) (lacks (north c)) (lacks (west c))

-- ---- of a table

module _ (class : ℕ → Class) (t : List ℤ) (head : Head) (nodes : List Node) (edges : List Edge) where
  abbrev of_leaf : Sides → ℕ → Option Found
  of_leaf sides id = on_leaf nodes edges (class (cell_at t id).poly) sides id (cell_at t id)

  own : (sides : Sides) → Own (of_leaf sides)
  own sides i a e = own_found i (leaf_found nodes edges (class (cell_at t i).poly) sides (cell_at t i)) a e

  -- a walk along the columns and one along the rows
  pub found_together : earlier (first_found class (Along Column) t head nodes edges) (first_found class (Along Row) t head nodes edges) ≡ first_found class All t head nodes edges
  unfolding first_found
  found_together =
      merged (is_leaf (cells_in t head)) (of_leaf (Along Column)) (of_leaf (Along Row)) (of_leaf All) (own (Along Column)) (own (Along Row))
      (λ i. leaf_merged nodes edges (class (cell_at t i).poly) i (cell_at t i)) 0 head.count

  -- the first find over all sides is the first fault
  pub found_fault : fault_of (first_found class All t head nodes edges) ≡ fault_by class t head nodes edges
  unfolding first_found fault_by
  found_fault =
      fault_first (of_leaf All) (λ id. leaf_fault nodes edges (class (cell_at t id).poly) (cell_at t id))
      (λ i. leaf_faults nodes edges (class (cell_at t i).poly) i (cell_at t i)) (leaves_in t head)

-- ---- which axes a walk goes along
along_itself : (own axis : Axis) → IsTrue (have (Along own) axis) → own ≡ axis
along_itself Column Column h = refl
along_itself Column Row h = absurd (let q = h in cc)
along_itself Row Column h = absurd (let q = h in cc)
along_itself Row Row h = refl

pub goes_along : (scope : Scope) (axis : Axis) (p : ℕ) → GoesAlong (λ a. axis ≡ a) (class_of scope p) (sides_along scope axis)
goes_along Everywhere axis p = λ layer component own e h. absurd (let q = e in cc)
goes_along (ByLayer polygons) axis p = λ layer component own e h. along_itself axis own h
