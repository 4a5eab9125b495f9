-- How large extents, faces and distances are: in the range of the nodes' coordinates. And a cell's corners lie apart. Assumes nothing.
use Rattle.std.proofs.lemmas.Bool.Decides.{nat_tests}
use Rattle.std.proofs.Common.{◌≡◌, Bool, true, List, [], ◌∷◌, map, ℕ, suc, ◌+◌, ◌-◌, ◌≤◌, ◌<◌, arith, unwrap_or}
use lib.ListN.{get_or-eq_default}
use Rattle.net.specs.Net.{MeshNode, Edge, NetCell, Way, nth, nowhere, least, next_gap, prev_gap, turned, gap, box_of, size_of, hung, extent, face, distance, is_side, Cornered}
use Rattle.net.proofs.All.{All, all-map-by, all-by, all-at}

-- faces and distances of nodes whose coordinates are at most M
abbrev pub Within : ℕ → MeshNode → Type 0
Within M m = (m.x ≤ M) × (m.y ≤ M)

least-low : (M : ℕ) (p : MeshNode → ℕ → Bool) (g : MeshNode → ℕ) (l : List MeshNode) (j : ℕ) → All (λ (b : MeshNode). g b ≤ M) l → unwrap_or (least p g l j) 0 ≤ M
unfolding All least
least-low M p g [] j h = omega arith
least-low M p g (b ∷ l) j h = grind (arith, h.0, least-low M p g l (suc j) h.1)

next_low : (M : ℕ) (n : List MeshNode) (i : ℕ) → All (Within M) n → next_gap n i ≤ M
unfolding next_gap
next_low M n i h = least-low M _ (λ b. b.y - (nth n i).y) n 0 (all-by (Within M) (λ (b : MeshNode). b.y - (nth n i).y ≤ M) n (λ b k. (let y = k.1 in omega arith)) h)

prev-low : (M : ℕ) (n : List MeshNode) (i : ℕ) → (nth n i).y ≤ M → All (Within M) n → prev_gap n i ≤ M
unfolding prev_gap
prev-low M n i q h = least-low M _ (λ b. (nth n i).y - b.y) n 0 (all-by (Within M) (λ (b : MeshNode). (nth n i).y - b.y ≤ M) n (λ b k. omega arith) h)

nth-within : (M : ℕ) (n : List MeshNode) → All (Within M) n → (i : ℕ) → Within M (nth n i)
nth-within M n low i = grind (arith, all-at (Within M) nowhere n i low, get_or-eq_default n nowhere)

module _ (M : ℕ) (n : List MeshNode) (low : All (Within M) n) where
  turned-low : All (Within M) (map turned n)
  turned-low = all-map-by (Within M) (Within M) turned n (λ b h. (h.1, h.0)) low

  gap-low : (w : Way) (i : ℕ) → gap w n i ≤ M
  unfolding gap
  gap-low Way.up i = next_low M n i low
  gap-low Way.down i = prev-low M n i (nth-within M n low i).1 low
  gap-low Way.right i = next_low M (map turned n) i turned-low
  gap-low Way.left i = prev-low M (map turned n) i (nth-within M (map turned n) turned-low i).1 turned-low

  size_low : (w : Way) (c : NetCell) → size_of w (box_of n c) ≤ M
  size_low w c = grind (arith, nth-within M n low c.corners.northeast)

  hung-low : (w : Way) (i : ℕ) (cs : List NetCell) → hung w n i cs ≤ M
  unfolding hung
  hung-low w i [] = omega arith
  hung-low w i (c ∷ cs) = grind (arith, size_low w c, hung-low w i cs)

  extent-low : (w : Way) (cs : List NetCell) (i : ℕ) → extent w n cs i ≤ M
  unfolding extent
  extent-low w cs i = omega (arith, gap-low w i, hung-low w i cs)

  pub face-low : (cs : List NetCell) (e : Edge) → face n cs e ≤ M + M
  unfolding face
  face-low cs e = grind (arith, extent-low Way.up cs e.from, extent-low Way.down cs e.from, extent-low Way.right cs e.from, extent-low Way.left cs e.from)

  pub distance-low : (e : Edge) → distance n e ≤ M
  unfolding distance
  distance-low e = grind (arith, nth-within M n low e.from, nth-within M n low e.to)

-- the pair of a cell's side has a distance
pub side-distance : (n : List MeshNode) (c : NetCell) (e : Edge) → Cornered n c → is_side c e.from e.to ≡ true → 0 < distance n e
unfolding distance
side-distance n c e k h = grind (arith, nat_tests)
