-- Faces, distances and the formula of a weight.
use Rattle.std.proofs.Common.{◌≡◌, refl, sym, ap, ◌∙◌, Bool, true, false, List, ℕ, zero, suc, ◌+◌, ◌^◌, ◌<◌, min, map, arith, le_of_lt, mul-one, zero-lt-suc, T, cond, length, Option, if◌then◌else◌}
use Rattle.std.specs.Int.{abs_diff}
use Rattle.std.proofs.lemmas.List.{length-map}
use lib.Ieee.{Float, binary64, of_int, of_bits, mul, round}
use lib.Ieee.Back.{round_whole}
use lib.Ieee.Exact.{HasValue}
use lib.Ieee.Positive.{positive, positive_of_value, mul_at}
use Rattle.refusals.specs.Limits.{coordinate}
use Rattle.cell.proofs.Offsets.{off-le}
use Rattle.net_rows.specs.Nodes.{in_mesh}
use Rattle.net_rows.specs.declared.rows.Node.{Node}
use Rattle.net.specs.Net.{Edge, NetCell, Way, nth, lesser_of, flat, face, distance, num, halves, Half, ◌·◌, sheet_of, weight, weighed, Ends}
use Rattle.net.proofs.All.{All, all_map}
use Rattle.net.proofs.Faces.{Within, face-low, distance-low}
use Rattle.net_rows.specs.declared.axis.Axis.TheVariants.{Column, Row}
use Rattle.weights.specs.declared.weigh.Extents.{Extents}
use Rattle.weights.specs.Bare.{across_of, face_of, distance_of, HasExtents, Extended}
use Rattle.weights.proofs.Facing.{facing_at}

-- ---- binary64

half-value : HasValue Half false 1 2
unfolding of_bits
half-value = (refl, refl)

half-positive : T (positive Half)
unfolding of_bits
half-positive = tt

num-value : (n : ℕ) → n < 2 ^ 53 → HasValue (num n) false n 1
unfolding of_int
num-value n h = round_whole binary64 false n (le_of_lt h)

-- a product by one half is exact
pub half_is : (n : ℕ) → n < 2 ^ 53 → num n · Half ≡ halves n
unfolding of_int mul of_bits
half_is zero h = refl
half_is (suc n) h =
    mul_at binary64 (num (suc n)) Half (suc n) 1 1 2 (positive_of_value (num (suc n)) (suc n) 1 (num-value (suc n) h) (zero-lt-suc n)) half-positive (zero-lt-suc 0) (zero-lt-suc 1) (num-value (suc n) h) half-value
    ∙ ap (λ (z : ℕ). round binary64 false z 2) (mul-one (suc n))

-- ---- the face and the distance of an edge, by the extents along the axis across it

nodes-within : (nodes : List Node) → All (Within (coordinate + coordinate)) (map in_mesh nodes)
nodes-within nodes = all_map (Within (coordinate + coordinate)) in_mesh nodes (λ n. (off-le n.x, off-le n.y))

module _ (nodes : List Node) (cs : List NetCell) (x : Extents) (X : Extended (map in_mesh nodes) cs x) (e : Edge) (E : Ends (length nodes) e) where
  from : e.from < length (map in_mesh nodes)
  from = let h = E.from in omega (arith, length-map nodes in_mesh)

  to : e.to < length (map in_mesh nodes)
  to = let h = E.to in omega (arith, length-map nodes in_mesh)

  face-is : face_of x (across_of (map in_mesh nodes) e.from e.to) e.from e.to ≡ face (map in_mesh nodes) cs e
  unfolding face
  face-is = go (flat (map in_mesh nodes) e)
    where
      go : (b : Bool) → face_of x (cond b Column Row) e.from e.to
          ≡ (if b then lesser_of Way.up (map in_mesh nodes) cs e + lesser_of Way.down (map in_mesh nodes) cs e else lesser_of Way.right (map in_mesh nodes) cs e + lesser_of Way.left (map in_mesh nodes) cs e)
      go true = λ t. min (X.up-is e.from from t) (X.up-is e.to to t) + min (X.down-is e.from from t) (X.down-is e.to to t)
      go false = λ t. min (X.right-is e.from from t) (X.right-is e.to to t) + min (X.left-is e.from from t) (X.left-is e.to to t)

  distance_is : distance_of (map in_mesh nodes) (across_of (map in_mesh nodes) e.from e.to) e.from e.to ≡ distance (map in_mesh nodes) e
  unfolding distance
  distance_is = go (flat (map in_mesh nodes) e)
    where
      go : (b : Bool) → distance_of (map in_mesh nodes) (cond b Column Row) e.from e.to
          ≡ (if b then abs_diff (nth (map in_mesh nodes) e.from).x (nth (map in_mesh nodes) e.to).x else abs_diff (nth (map in_mesh nodes) e.from).y (nth (map in_mesh nodes) e.to).y)
      go true = refl
      go false = λ t. abs_diff (facing_at Row (map in_mesh nodes) e.from t).x (facing_at Row (map in_mesh nodes) e.to t).x

  pub from-there : HasExtents x e.from
  from-there = X.there e.from from

  pub to-there : HasExtents x e.to
  to-there = X.there e.to to

  pub face-small : face_of x (across_of (map in_mesh nodes) e.from e.to) e.from e.to < 2 ^ 53
  face-small = omega (arith, face-is, face-low (coordinate + coordinate) (map in_mesh nodes) (nodes-within nodes) cs e)

  pub distance-small : distance_of (map in_mesh nodes) (across_of (map in_mesh nodes) e.from e.to) e.from e.to < 2 ^ 53
  distance-small = omega (arith, distance_is, distance-low (coordinate + coordinate) (map in_mesh nodes) (nodes-within nodes) e)

  pub weighed-is : (o : Option Float) → sheet_of cs e.from e.to ≡ o
      → weight e.conductance (face_of x (across_of (map in_mesh nodes) e.from e.to) e.from e.to) (distance_of (map in_mesh nodes) (across_of (map in_mesh nodes) e.from e.to) e.from e.to) o ≡ (weighed (map in_mesh nodes) cs e).conductance
  unfolding weighed
  weighed-is o h = λ t. weight e.conductance (face-is t) (distance_is t) (sym h t)
