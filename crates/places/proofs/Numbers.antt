-- The numbers of the corners' nodes, and the row of nodes that is written from them.
use Rattle.std.proofs.Common.{◌≡◌, sym, ap, ◌∙◌, true, false, ⊎_elim, List, [], ◌∷◌, ◌++◌, map, ℕ, suc, ◌+◌, ◌*◌, ◌<◌, ◌≤◌, arith, length, get_or, take, drop, eqb-true}
use Rattle.std.specs.Prelude.{flat_map}
use Rattle.std.specs.List.{range_with_len}
use borrow.Author.Tests.{eqb-false}
use Rattle.std.proofs.lemmas.List.{ext_get_or, length-map, get_or-map, map-append, get_or-take, get_or-drop, length-take-le}
use Rattle.std.proofs.Math.Seq.{take-append_seam}
use Rattle.std.proofs.lemmas.List.Sums.{count_by-le-length}
use Rattle.std.proofs.lemmas.List.FromFn.{length-range_with_len}
use Rattle.net_rows.specs.declared.rows.Node.{Node}
use Rattle.net_rows.specs.Nodes.{in_ticks}
use Rattle.net.specs.Net.{position_of, MeshNode, Piece, same_node, nth, nowhere, weld, nodes_from}
use Rattle.net.specs.First.{key, first_of, is_new, rank, rank_in, news, number_by, Firsts}
use Rattle.net.specs.Flat.{Leaf, corners_in, mids_in, flat_places, leaves_from}
use Rattle.net.proofs.Flat.{flat-nodes}
use Rattle.net.proofs.Positions.{test}
use Rattle.net.proofs.Numbers.{rank-in}
use Rattle.net.proofs.Weld.{news-new, news-old, length-news, rank_below, first-new, first-at-most, welded}
use Rattle.places.specs.Places.{firsts, node_numbers}
use Rattle.places.proofs.Places.{corners-length, places-length}
use Rattle.places.proofs.Firsts.{first_at, first-most, first-node, firsts-length, firsts-at, firsts-keyed, first-of}

pub rank-le : (ks : List ℕ) (i : ℕ) → rank ks i ≤ i
unfolding rank
rank-le ks i = omega (arith, count_by-le-length (is_new ks) (range_with_len 0 i), length-range_with_len 0 i)

-- a place is new if its number is the next one
pub next-new : (ks : List ℕ) (i : ℕ) → number_by ks i ≡ rank ks i → i < length ks → is_new ks i ≡ true
next-new ks i e h =
    ⊎_elim
    (λ t. t)
    (λ t. (let f = first-at-most ks i in
    let n = eqb-false (first_of ks i) i t in
    absurd (omega (arith, rank_below ks (first_of ks i) i (first-new ks (key ks i) (omega arith)) (omega arith)))))
    (test (is_new ks i))

pub next-old : (ks : List ℕ) (i : ℕ) → (number_by ks i ≡ rank ks i → ⊥) → is_new ks i ≡ false
next-old ks i e = ⊎_elim (λ t. absurd (e (ap (rank ks) (eqb-true (first_of ks i) i t)))) (λ t. t) (test (is_new ks i))

module _ (P : List MeshNode) where
  abbrev fs : List ℕ
  fs = firsts P

  pub numbers-length : (n : ℕ) → n ≤ length P → length (node_numbers P n) ≡ n
  numbers-length n l = let m = firsts-length P in length-map (take n fs) (rank fs) ∙ length-take-le n fs (omega arith)

  pub number_at : (n i : ℕ) → n ≤ length P → i < n → get_or (node_numbers P n) i 0 ≡ number_by fs i
  number_at n i l h =
      let m = firsts-length P in
      get_or-map (rank fs) (take n fs) i 0 0 (omega (arith, length-take-le n fs (omega arith)))
      ∙ ap (rank fs) (get_or-take n fs i 0 h ∙ sym (first-of P i (omega arith)))

  pub middle_first : (n j : ℕ) → n + j < length P → get_or (drop n fs) j 0 ≡ first_of fs (n + j)
  middle_first n j h = get_or-drop n fs j 0 ∙ sym (first-of P (n + j) h)

  -- the nodes of the new ones of the first i places
  abbrev pub nodes_to : ℕ → List Node
  nodes_to i = map in_ticks (map (nth P) (news fs i))

  pub nodes-length : (i : ℕ) → length (nodes_to i) ≡ rank fs i
  nodes-length i = length-map (map (nth P) (news fs i)) in_ticks ∙ length-map (news fs i) (nth P) ∙ length-news fs i

  pub nodes-new : (i : ℕ) → is_new fs i ≡ true → nodes_to (suc i) ≡ nodes_to i ++ (in_ticks (nth P i) ∷ [])
  nodes-new i e =
      ap (λ l. map in_ticks (map (nth P) l)) (news-new fs i e)
      ∙ ap (map in_ticks) (map-append (nth P) (news fs i) (i ∷ []))
      ∙ map-append in_ticks (map (nth P) (news fs i)) (nth P i ∷ [])

  pub nodes-old : (i : ℕ) → is_new fs i ≡ false → nodes_to (suc i) ≡ nodes_to i
  nodes-old i e = ap (λ l. map in_ticks (map (nth P) l)) (news-old fs i e)

corners_of : (ls : List Leaf) → take (4 * length ls) (flat_places ls) ≡ flat_map corners_in ls
unfolding flat_places
corners_of ls = ap (λ n. take n (flat_map corners_in ls ++ flat_map mids_in ls)) (sym (corners-length ls)) ∙ take-append_seam (flat_map corners_in ls) (flat_map mids_in ls)

-- the new ones of all corners are the nodes
pub corners_new : (ls : List Leaf) → map (nth (flat_places ls)) (news (firsts (flat_places ls)) (4 * length ls)) ≡ weld same_node [] (flat_map corners_in ls)
corners_new ls =
    let P = flat_places ls in
    let n = places-length ls in
    sym (welded same_node nowhere P (firsts P) (firsts-keyed P) (4 * length ls) (omega arith)) ∙ ap (weld same_node []) (corners_of ls)

-- the net's
pub nodes-from : (qs : List Piece) → nodes_from [] qs ≡ weld same_node [] (flat_map corners_in (leaves_from qs 0))
nodes-from qs = let ls = leaves_from qs 0 in flat-nodes qs (firsts (flat_places ls)) (firsts-keyed (flat_places ls)) ∙ corners_new ls

-- ---- the corners' first places

module _ (P : List MeshNode) (n : ℕ) (l : n ≤ length P) where
  abbrev front : List ℕ
  front = take n (firsts P)

  front-length : length front ≡ n
  front-length = let m = firsts-length P in length-take-le n (firsts P) (omega arith)

  front_at : (i : ℕ) → i < n → get_or front i 0 ≡ first_at P i
  front_at i h = get_or-take n (firsts P) i 0 h ∙ firsts-at P i (omega arith)

  pub front-firsts : Firsts front
  front-firsts =
      let m = front-length in
      record {
        low = λ i h. omega (arith, front_at i (omega arith), first-most P i);
        own = λ i h. (let f = first-most P i in
            ap (λ k. get_or front k 0) (front_at i (omega arith))
            ∙ front_at (first_at P i) (omega arith)
            ∙ ap (position_of same_node P) (first-node P i (omega arith))
            ∙ sym (front_at i (omega arith)));
      }

  ranked : (j : ℕ) → j ≤ n → rank_in front j ≡ rank (firsts P) j
  ranked j h = rank-in (firsts P) front j (λ i k. front_at i (omega arith) ∙ sym (first-of P i (omega arith) ∙ firsts-at P i (omega arith)))

  pub front-ranked : map (rank_in front) front ≡ node_numbers P n
  front-ranked =
      let m = front-length in
      ext_get_or 0 (map (rank_in front) front) (node_numbers P n) (length-map front (rank_in front) ∙ sym (length-map front (rank (firsts P)))) (λ i h.
      let k = length-map front (rank_in front) in
      let f = front_at i (omega arith) in
      let g = first-most P i in
      get_or-map (rank_in front) front i 0 0 (omega arith) ∙ ranked (get_or front i 0) (omega arith) ∙ sym (get_or-map (rank (firsts P)) front i 0 0 (omega arith)))

  pub front-count : rank_in front (length front) ≡ rank (firsts P) n
  front-count = ap (rank_in front) front-length ∙ ranked n (omega arith)
