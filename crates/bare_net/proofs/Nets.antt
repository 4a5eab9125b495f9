-- The net before the weights by what `number_places` leaves in the rows.
use Rattle.std.proofs.Common.{◌≡◌, sym, ap, ◌∙◌, subst, List, [], map, ℕ, ◌+◌, ◌*◌, ◌<◌, arith, length, drop, get_or}
use Rattle.std.specs.Prelude.{flat_map}
use Rattle.std.proofs.lemmas.List.{length-map}
use Rattle.net_rows.specs.Nodes.{in_ticks}
use Rattle.net.specs.Net.{Piece, same_node, nowhere, nth, weld, bare}
use Rattle.net.specs.First.{first_of, rank, news, number_by}
use Rattle.net.specs.Flat.{Leaf, leaves_from, flat_places, corners_in}
use Rattle.net.proofs.Weld.{Keyed, length-news}
use Rattle.net.proofs.Flat.{flat-nodes, flat-cells}
use Rattle.places.specs.declared.Leaves.{Leaves}
use Rattle.places.specs.Places.{leaves_in, places_in, corner_count, firsts, node_numbers, nodes_in}
use Rattle.places.proofs.Places.{leaves-length, count_is}
use Rattle.places.proofs.Firsts.{firsts-keyed}
use Rattle.places.proofs.Numbers.{number_at, middle_first, nodes-from}
use Rattle.bare_net.specs.declared.sides.Sides.{Sides}
use Rattle.bare_net.specs.Edges.{edges_in, cells_in}
use Rattle.bare_net.proofs.Board.{patches-long, edges-are, cells-are}

module _ (b : Leaves) (qs : List Piece) (are : leaves_in b ≡ leaves_from qs 0) where
  abbrev ls : List Leaf
  ls = leaves_from qs 0

  abbrev fs : List ℕ
  fs = firsts (places_in b)

  keyed : Keyed same_node nowhere (flat_places ls) fs
  keyed = subst (λ (z : List Leaf). Keyed same_node nowhere (flat_places z) fs) are (firsts-keyed (places_in b))

  many-leaves : length ls ≡ length b.entries.now
  many-leaves = ap length (sym are) ∙ leaves-length b

  pub nodes-many : rank fs (corner_count b) ≡ length (bare qs).nodes
  unfolding bare
  nodes-many =
      sym
      (ap length (flat-nodes qs fs keyed)
      ∙ (length-map (news fs (4 * length ls)) (nth (flat_places ls)) ∙ (length-news fs (4 * length ls) ∙ ap (λ (n : ℕ). rank fs (4 * n)) many-leaves)))

  pub cells-many : length (bare qs).cells ≡ length b.entries.now
  unfolding bare
  cells-many = ap length (flat-cells qs fs keyed) ∙ (patches-long fs 0 ls ∙ many-leaves)

  pub bare-nodes : map in_ticks (bare qs).nodes ≡ map in_ticks (nodes_in b)
  unfolding bare
  bare-nodes =
      ap (map in_ticks) (nodes-from qs ∙ ap (λ (z : List Leaf). weld same_node [] (flat_map corners_in z)) (sym are))

module _ (s : Sides) (qs : List Piece) (are : leaves_in s.leaves ≡ leaves_from qs 0)
    (numbered : s.numbers.now ≡ node_numbers (places_in s.leaves) (corner_count s.leaves)) (placed : s.middles.now ≡ drop (corner_count s.leaves) (firsts (places_in s.leaves))) where
  number-here : (i : ℕ) → i < length s.numbers.now → get_or s.numbers.now i 0 ≡ number_by (fs s.leaves qs are) i
  number-here i h =
      let c = count_is s.leaves in
      let n = s.a_number_each in
      ap (λ (z : List ℕ). get_or z i 0) numbered ∙ number_at (places_in s.leaves) (corner_count s.leaves) i (omega arith) (omega arith)

  middle-here : (i : ℕ) → i < length s.middles.now → get_or s.middles.now i 0 ≡ first_of (fs s.leaves qs are) (corner_count s.leaves + i)
  middle-here i h =
      let c = count_is s.leaves in
      let n = s.a_place_each in
      ap (λ (z : List ℕ). get_or z i 0) placed ∙ middle_first (places_in s.leaves) (corner_count s.leaves) i (omega arith)

  pub bare-edges : (bare qs).edges ≡ edges_in s
  unfolding bare
  bare-edges = edges-are s qs are (fs s.leaves qs are) (keyed s.leaves qs are) number-here middle-here

  pub bare-cells : (bare qs).cells ≡ cells_in s
  unfolding bare
  bare-cells = cells-are s qs are (fs s.leaves qs are) (keyed s.leaves qs are) number-here middle-here
