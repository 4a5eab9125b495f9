-- What an accepted call found, and what it leaves. Assumes nothing.
use Rattle.std.proofs.Common.{◌≡◌, refl, sym, ◌∙◌, Bool, true, false, not, cond, List, [], ◌∷◌, ℕ, ◌<◌, ◌≤◌, arith, zero-add, ltb, nat_le, eqb-true, length, get_or, Float, None, Some, Option, slice_index}
use lib.Ieee.{nan}
use Rattle.std.specs.Prelude.{All, IsTrue}
use Rattle.std.specs.List.{range_with_len}
use Rattle.std.proofs.lemmas.Bool.{not-false, and_parts}
use Rattle.std.proofs.lemmas.Bool.Decides.{nat_tests}
use Rattle.std.proofs.lemmas.List.Sums.{fails_before_first}
use Rattle.std.proofs.lemmas.List.Elements.{All-map, All-from_get_or}
use Rattle.std.proofs.lemmas.List.FromFn.{get_or-range_with_len, length-range_with_len}
use Rattle.refusals.specs.Limits.{max_polygons}
use Rattle.refusals.specs.Said.{Said, accepted, refused}
use Rattle.refusals.proofs.Settled.{one-said}
use Rattle.table.specs.Rows.{IsTable, cells_in}
use Rattle.floats.specs.Fractions.{in_sheet}
use Rattle.net.specs.Net.{Poly, network, weigh}
use Rattle.net.proofs.Every as Net
use Rattle.places.proofs.Within.{cells_are_within}
use Rattle.places.specs.Leaves.{poly_at, polys_of}
use Rattle.links.specs.Judged.{links_in_range}
use Rattle.links.specs.Made.{linked, linked_network}
use Rattle.links.proofs.Conducting.{linked-conduct}
use Rattle.network.proofs.Bare.{leaf_count-leaves, leaves-few}
use Rattle.network.specs.declared.NetSize.{NetSize}
use Rattle.network.specs.Says.{fits, first_bad, unless_bad, judged, network_says, size_values, edge_rows_says}
use Rattle.network.specs.Laws.{AcceptedCall, AcceptedEdgesConduct, AcceptedCellsAreRectangles, OneAnswer, OneContent, OneCount}

-- what is accepted passed the test, and what stands behind it is accepted
passed : (test : Bool) (rest : Said) (number place : ℕ) (values : List ℕ) → cond test rest (refused number place) ≡ accepted values
    → (test ≡ true) × (rest ≡ accepted values)
passed true rest number place values e = (refl, e)
passed false rest number place values e = cc e

unspoilt : (bad : Option ℕ) (rest : Said) (values : List ℕ) → unless_bad bad rest ≡ accepted values
    → (bad ≡ None) × (rest ≡ accepted values)
unspoilt None rest values e = (refl, e)
unspoilt (Some p) rest values e = cc e

record Found (c : AcceptedCall) : Type 0 where
  formed : IsTable c.row c.head
  sheet_each : length c.sheets ≡ length c.polygons.layers.now
  sheets : first_bad c.sheets ≡ None
  links : links_in_range c.links ≡ true

found : (c : AcceptedCall) → Found c
unfolding network_says judged
found c =
    let fit = passed (fits c.row c.head c.polygons c.sheets) _ _ _ c.counts c.accepting in
    let few = passed (nat_le (length c.polygons.layers.now) max_polygons) _ _ _ c.counts fit.1 in
    let here = and_parts _ _ fit.0 in
    let rows = and_parts _ _ here.1 in
    let good = unspoilt (first_bad c.sheets) _ c.counts few.1 in
    let linked = passed (links_in_range c.links) _ _ _ c.counts good.1 in
    record { formed = here.0; sheet_each = eqb-true _ _ rows.1; sheets = good.0; links = linked.0 }

-- each sheet resistance is in range
sheet-in : (sheets : List Float) → first_bad sheets ≡ None → (k : ℕ) → k < length sheets → in_sheet (get_or sheets k nan) ≡ true
sheet-in sheets e k h = not-false _ (fails_before_first (λ sheet. not (in_sheet sheet)) sheets k nan (omega (arith, all _ _ e)))
  where
    all : (n m : ℕ) → cond (ltb n m) (Some n) None ≡ None → m ≤ n
    all n m e = grind (arith, nat_tests)

module _ (c : AcceptedCall) where
  abbrev polys : List Poly
  polys = polys_of c.polygons c.sheets

  sheets-in : All (λ p. IsTrue (in_sheet p.sheet)) polys
  sheets-in =
      let f = found c in
      All-map (λ p. IsTrue (in_sheet p.sheet)) (poly_at c.polygons c.sheets) (range_with_len 0 (length c.polygons.layers.now))
      (All-from_get_or (λ k. IsTrue (in_sheet (get_or c.sheets k nan))) (range_with_len 0 (length c.polygons.layers.now)) 0
      (λ i h. (let l : i < length c.polygons.layers.now = omega (arith, length-range_with_len 0 (length c.polygons.layers.now)) in
      rw (get_or-range_with_len, zero-add) (sheet-in c.sheets f.sheets i (rw f.sheet_each l)))))

-- ---- the laws that src/laws.rt promises

pub edges-conduct : AcceptedEdgesConduct
edges-conduct c =
    let f = found c in
    linked-conduct (cells_in c.row c.head) (polys c) c.links (omega (arith, leaf_count-leaves c.row c.head f.formed, leaves-few c.row c.head f.formed))
    (cells_are_within c.row c.head f.formed) (sheets-in c) f.links

pub cells-rectangles : AcceptedCellsAreRectangles
unfolding linked_network linked weigh network
cells-rectangles c = Net.cells-rectangles (cells_in c.row c.head) (polys c) (λ k d h leaf. (cells_are_within c.row c.head (found c).formed k d h leaf).area)

pub one-answer : OneAnswer
one-answer row head p sheets links lent = one-said size_values netted (λ c. refl) (network_says row head p sheets links lent)
  where
    netted : List ℕ → NetSize
    netted vs = record { nodes = slice_index vs 0; edges = slice_index vs 1; cells = slice_index vs 2; links = slice_index vs 3 }

pub one-content : OneContent
one-content row head p sheets links lent left other a b = a ∙ sym b

pub one-count : OneCount
one-count row head p sheets links = one-said (λ n. n ∷ []) (λ vs. slice_index vs 0) (λ n. refl) (edge_rows_says row head p sheets links)
