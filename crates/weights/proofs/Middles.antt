-- Where a cell's side has its middle, and what the step from the side's first end tells of it.
use Rattle.std.proofs.Common.{◌≡◌, ℕ, ◌+◌, ◌-◌, ◌/◌, ◌<◌, List, [], ◌∷◌, Option, None, refl, sym, ap, ◌∙◌, subst, arith}
use Rattle.cell.specs.Boxes.{mid}
use Rattle.net.specs.Net.{MeshNode, NetCell, nth, hangs_at, box_of, size_of}
use Rattle.net_rows.specs.declared.axis.Axis.{Axis}
use Rattle.net_rows.specs.declared.axis.Axis.TheVariants.{Column, Row}
use Rattle.weights.specs.declared.extents.Way.{Way}
use Rattle.weights.specs.declared.extents.Way.TheVariants.{Up, Down, Right, Left}
use Rattle.weights.specs.Lines.{facing, all_facing, place_of, IsLast, LastIs, IsStep}
use Rattle.weights.specs.Ways.{way_of, axis_of, axis_across, side_at}
use Rattle.weights.proofs.Order.{num}
use Rattle.weights.proofs.Facing.{facing-length, facing_at, key_of, to-line, from-line}

hang_place : (way : Way) (ns : List MeshNode) (c : NetCell) → place_of (hangs_at (way_of way) ns c)
    ≡ key_of (axis_of way) (facing (axis_of way) (nth ns c.corners.southwest)).layer (mid (facing (axis_of way) (nth ns c.corners.southwest)).x (facing (axis_of way) (nth ns c.corners.northeast)).x) (side_at way (facing (axis_of way) (nth ns c.corners.southwest)).y (facing (axis_of way) (nth ns c.corners.northeast)).y)
hang_place Up ns c = refl
hang_place Down ns c = refl
hang_place Right ns c = refl
hang_place Left ns c = refl

size_is : (way : Way) (ns : List MeshNode) (c : NetCell) → (facing (axis_of way) (nth ns c.corners.northeast)).y - (facing (axis_of way) (nth ns c.corners.southwest)).y ≡ size_of (way_of way) (box_of ns c)
size_is Up ns c = refl
size_is Down ns c = refl
size_is Right ns c = refl
size_is Left ns c = refl

-- by the axis across, line and place along it change roles
crossed : (way : Way) (layer line along : ℕ) → key_of (axis_across way) layer line along ≡ key_of (axis_of way) layer along line
crossed Up layer line along = refl
crossed Down layer line along = refl
crossed Right layer line along = refl
crossed Left layer line along = refl

turned_twice : (way : Way) (m : MeshNode) → place_of (facing (axis_across way) m) ≡ (facing (axis_of way) m).layer ∷ (facing (axis_of way) m).y ∷ (facing (axis_of way) m).x ∷ []
turned_twice Up m = refl
turned_twice Down m = refl
turned_twice Right m = refl
turned_twice Left m = refl

-- ---- the step from a node, by the axis of the way across which it goes

module _ (way : Way) (ns : List MeshNode) (s step node : ℕ) (S : IsStep (all_facing (axis_across way) ns) s step node) where
  abbrev from : MeshNode
  from = facing (axis_of way) (nth ns s)

  at : place_of (nth (all_facing (axis_across way) ns) s) ≡ from.layer ∷ from.y ∷ from.x ∷ []
  at = ap place_of (facing_at (axis_across way) ns s) ∙ turned_twice way (nth ns s)

  -- the last node a step away
  stands : IsLast ns (key_of (axis_of way) from.layer (from.x + step) from.y) node
  stands =
      let axis = axis_across way in
      let n = facing-length (axis_across way) ns in
      let L : IsLast (all_facing (axis_across way) ns) (from.layer ∷ from.y ∷ (from.x + step) ∷ []) node = subst (λ (p : List ℕ). IsLast (all_facing (axis_across way) ns) (num p 0 ∷ num p 1 ∷ (num p 2 + step) ∷ []) node) at S.last in
      let i = L.inside in
      subst (λ (k : List ℕ). IsLast ns k node) (crossed way from.layer from.y (from.x + step))
      (record {
        inside = omega arith;
        there = from-line (axis_across way) ns node from.layer from.y (from.x + step) L.there;
        last = λ k h e. L.last k (omega arith) (to-line (axis_across way) ns k from.layer from.y (from.x + step) e);
      })

  -- nothing nearer
  nothing : (m : ℕ) → from.x < m → m < from.x + step → LastIs ns (key_of (axis_of way) from.layer m from.y) None
  nothing m g l k h e =
      let n = facing-length (axis_across way) ns in
      let p = to-line (axis_across way) ns k from.layer from.y m (e ∙ sym (crossed way from.layer from.y m)) in
      let a = ap (λ (z : List ℕ). num z 0) at in let b = ap (λ (z : List ℕ). num z 1) at in let c = ap (λ (z : List ℕ). num z 2) at in
      let x = ap (λ (z : List ℕ). num z 0) p in let y = ap (λ (z : List ℕ). num z 1) p in let z = ap (λ (z : List ℕ). num z 2) p in
      let q = S.nearest k (omega arith) (omega arith) (omega arith) (omega arith) in
      omega arith

-- ---- by the nodes at a cell's corners, as the code has them

module _ (way : Way) (ns : List MeshNode) (c : NetCell) (axis : Axis) (A : axis ≡ axis_of way) (near far : MeshNode)
    (N : near ≡ nth (all_facing axis ns) c.corners.southwest) (F : far ≡ nth (all_facing axis ns) c.corners.northeast) where
  as_faced : (i : ℕ) (m : MeshNode) → m ≡ nth (all_facing axis ns) i → m ≡ facing (axis_of way) (nth ns i)
  as_faced i m e = e ∙ (facing_at axis ns i ∙ ap (λ (a : Axis). facing a (nth ns i)) A)

  P : near ≡ facing (axis_of way) (nth ns c.corners.southwest)
  P = as_faced c.corners.southwest near N

  Q : far ≡ facing (axis_of way) (nth ns c.corners.northeast)
  Q = as_faced c.corners.northeast far F

  pub size-is : far.y - near.y ≡ size_of (way_of way) (box_of ns c)
  size-is = (λ t. (Q t).y - (P t).y) ∙ size_is way ns c

  module _ (side : ℕ) (S : side ≡ side_at way near.y far.y) where
    key-is : key_of (axis_of way) near.layer ((near.x + far.x) / 2) side ≡ place_of (hangs_at (way_of way) ns c)
    key-is = ap (key_of (axis_of way) near.layer ((near.x + far.x) / 2)) S ∙ ((λ t. key_of (axis_of way) (P t).layer (((P t).x + (Q t).x) / 2) (side_at way (P t).y (Q t).y)) ∙ sym (hang_place way ns c))

    found : (a : Axis) → axis ≡ a → (o : Option ℕ) → LastIs ns (key_of a near.layer ((near.x + far.x) / 2) side) o → LastIs ns (place_of (hangs_at (way_of way) ns c)) o
    found a e o L =
        subst (λ (k : List ℕ). LastIs ns k o) key-is (subst (λ (b : Axis). LastIs ns (key_of b near.layer ((near.x + far.x) / 2) side) o) (sym e ∙ A) L)

    pub found_column : axis ≡ Column → (o : Option ℕ) → LastIs ns (near.layer ∷ (near.x + far.x) / 2 ∷ side ∷ []) o → LastIs ns (place_of (hangs_at (way_of way) ns c)) o
    found_column e o L = found Column e o L

    pub found_row : axis ≡ Row → (o : Option ℕ) → LastIs ns (near.layer ∷ side ∷ (near.x + far.x) / 2 ∷ []) o → LastIs ns (place_of (hangs_at (way_of way) ns c)) o
    found_row e o L = found Row e o L

    module _ (start : ℕ) (first : MeshNode) (B : first ≡ nth (all_facing axis ns) start) (layer : first.layer ≡ near.layer) (on : first.y ≡ side)
        (step node : ℕ) (T : IsStep (all_facing (axis_across way) ns) start step node) where
      R : first ≡ facing (axis_of way) (nth ns start)
      R = as_faced start first B

      -- a place on the side's line, by its first end
      line_is : (m : ℕ) → m ≡ (near.x + far.x) / 2 → key_of (axis_of way) (facing (axis_of way) (nth ns start)).layer m (facing (axis_of way) (nth ns start)).y ≡ place_of (hangs_at (way_of way) ns c)
      line_is m e = (λ t. key_of (axis_of way) (sym R t).layer (e t) (sym R t).y) ∙ ((λ t. key_of (axis_of way) (layer t) ((near.x + far.x) / 2) (on t)) ∙ key-is)

      pub not_found : first.x < (near.x + far.x) / 2 → (near.x + far.x) / 2 - first.x < step → LastIs ns (place_of (hangs_at (way_of way) ns c)) None
      not_found g l =
          let x = ap (λ (m : MeshNode). m.x) R in
          subst (λ (k : List ℕ). LastIs ns k None) (line_is ((near.x + far.x) / 2) refl) (nothing way ns start step node T ((near.x + far.x) / 2) (omega arith) (omega arith))

      pub found_next : first.x < (near.x + far.x) / 2 → (near.x + far.x) / 2 - first.x ≡ step → IsLast ns (place_of (hangs_at (way_of way) ns c)) node
      found_next g e =
          let x = ap (λ (m : MeshNode). m.x) R in
          subst (λ (k : List ℕ). IsLast ns k node) (line_is ((facing (axis_of way) (nth ns start)).x + step) (omega arith)) (stands way ns start step node T)
