-- The places of the leaves: what stands at each, and the first place of each node.
use Rattle.std.proofs.Common.{◌≡◌, refl, sym, ap, ◌∙◌, List, ◌++◌, ℕ, zero, suc, ◌+◌, ◌*◌, ◌/◌, ◌%◌, ◌<◌, arith, length, get_or, length-append, get_or-append-add}
use Rattle.std.specs.Prelude.{flat_map}
use lib.ListN.{get_or-append}
use Rattle.std.proofs.lemmas.List.{length-map}
use Rattle.cell.specs.Boxes.{Box}
use Rattle.net.specs.Net.{Poly, nth, nowhere, node_at, corners_at}
use Rattle.net.specs.First.{mids_at}
use Rattle.net.specs.Flat.{Leaf, leaf_at, no_leaf, place_x, place_y, corners_in, mids_in, flat_places}
use Rattle.net.proofs.Board.{each-length, each_at}
use Rattle.places.specs.Leaves.{leaf_of, leaf_from}
use Rattle.places.specs.declared.Leaves.{Leaves}
use Rattle.places.specs.Places.{place_at, leaves_in, places_in, place_count}

corner-place : (p : Poly) (r : Box) (s : ℕ) → s < 4 → get_or (corners_at p r) s nowhere ≡ node_at p (place_x r s) (place_y r s)
corner-place p r zero h = refl
corner-place p r (suc zero) h = refl
corner-place p r (suc (suc zero)) h = refl
corner-place p r (suc (suc (suc zero))) h = refl
corner-place p r (suc (suc (suc (suc s)))) h = absurd (omega arith)

middle-place : (p : Poly) (r : Box) (s : ℕ) → s < 4 → get_or (mids_at p r) s nowhere ≡ node_at p (place_x r (s + 4)) (place_y r (s + 4))
middle-place p r zero h = refl
middle-place p r (suc zero) h = refl
middle-place p r (suc (suc zero)) h = refl
middle-place p r (suc (suc (suc zero))) h = refl
middle-place p r (suc (suc (suc (suc s)))) h = absurd (omega arith)

module _ (ls : List Leaf) where
  pub corners-length : length (flat_map corners_in ls) ≡ 4 * length ls
  corners-length = each-length corners_in (λ r. refl) ls

  pub places-length : length (flat_places ls) ≡ 8 * length ls
  unfolding flat_places
  places-length = omega (arith, length-append (flat_map corners_in ls) (flat_map mids_in ls), corners-length, each-length mids_in (λ r. refl) ls)

  quarters : (i : ℕ) → i ≡ 4 * (i / 4) + i % 4
  quarters i = omega arith

  pub corner_at : (i : ℕ) → i < 4 * length ls → place_at ls (i / 4) (i % 4) ≡ nth (flat_places ls) i
  unfolding flat_places
  corner_at i h =
      let c = corners-length in
      sym (get_or-append (flat_map corners_in ls) (flat_map mids_in ls) nowhere i (omega arith)
      ∙ ap (nth (flat_map corners_in ls)) (quarters i)
      ∙ each_at corners_in (λ r. refl) ls (i / 4) (i % 4) no_leaf nowhere (omega arith) (omega arith)
      ∙ corner-place (leaf_at ls (i / 4)).poly (leaf_at ls (i / 4)).box (i % 4) (omega arith))

  pub middle_at : (i : ℕ) → i < 4 * length ls → place_at ls (i / 4) (i % 4 + 4) ≡ nth (flat_places ls) (4 * length ls + i)
  unfolding flat_places
  middle_at i h =
      sym (ap (λ (n : ℕ). nth (flat_map corners_in ls ++ flat_map mids_in ls) (n + i)) (sym corners-length)
      ∙ get_or-append-add (flat_map corners_in ls) (flat_map mids_in ls) i nowhere
      ∙ ap (nth (flat_map mids_in ls)) (quarters i)
      ∙ each_at mids_in (λ r. refl) ls (i / 4) (i % 4) no_leaf nowhere (omega arith) (omega arith)
      ∙ middle-place (leaf_at ls (i / 4)).poly (leaf_at ls (i / 4)).box (i % 4) (omega arith))

module _ (b : Leaves) where
  pub leaves-length : length (leaves_in b) ≡ length b.entries.now
  leaves-length = length-map b.entries.now (λ e. leaf_of b.polygons b.sheets.now (leaf_from e))

  pub count_is : length (places_in b) ≡ place_count b
  count_is = let n = leaves-length in omega (arith, places-length (leaves_in b))
