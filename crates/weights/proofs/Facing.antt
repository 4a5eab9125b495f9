-- Nodes along the lines of an axis.
use Rattle.std.proofs.Common.{◌≡◌, ℕ, ◌&&◌, eqb, List, [], ◌∷◌, length, get_or, true, refl, sym, ap, ◌∙◌, ◌^◌, ◌<◌, eqb-true, eq-eqb, arith}
use Rattle.std.proofs.lemmas.List.{length-map, get_or-map}
use Rattle.std.proofs.Math.ListN.{get_or-map as get_or-map_default}
use Rattle.cell.proofs.Offsets.{off-le}
use Rattle.net_rows.specs.Nodes.{in_mesh}
use Rattle.net_rows.specs.declared.rows.Node.{Node}
use Rattle.net.specs.Net.{MeshNode, same_place, nth, nowhere, turned}
use Rattle.net.proofs.Keys.{both, both_of}
use Rattle.net_rows.specs.declared.axis.Axis.{Axis}
use Rattle.net_rows.specs.declared.axis.Axis.TheVariants.{Column, Row}
use Rattle.weights.specs.declared.lent.BareNet.{BareNet}
use Rattle.weights.specs.Lines.{facing, all_facing, place_of}
use Rattle.weights.specs.Bare.{nodes_of, faced}
use Rattle.weights.proofs.Order.{num}

pub facing-length : (axis : Axis) (ns : List MeshNode) → length (all_facing axis ns) ≡ length ns
facing-length Column ns = refl
facing-length Row ns = length-map ns turned

pub facing_at : (axis : Axis) (ns : List MeshNode) (i : ℕ) → nth (all_facing axis ns) i ≡ facing axis (nth ns i)
facing_at Column ns i = refl
facing_at Row ns i = get_or-map_default turned ns i nowhere

-- ---- a net's nodes

pub faced-long : (net : BareNet) (axis : Axis) → length (faced net axis) ≡ length net.nodes.now
faced-long net axis = facing-length axis (nodes_of net) ∙ length-map net.nodes.now in_mesh

pub faced_at : (net : BareNet) (axis : Axis) (i : ℕ) (d : Node) → i < length net.nodes.now → nth (faced net axis) i ≡ facing axis (in_mesh (get_or net.nodes.now i d))
faced_at net axis i d h = facing_at axis (nodes_of net) i ∙ ap (facing axis) (get_or-map in_mesh net.nodes.now i d nowhere h)

pub line-narrow : (axis : Axis) (n : Node) → (facing axis (in_mesh n)).x < 2 ^ 38
line-narrow Column n = omega (arith, off-le n.x)
line-narrow Row n = omega (arith, off-le n.y)

-- ---- places

-- a place among the nodes as they are, by the line of an axis and the place along it
abbrev pub key_of : Axis → ℕ → ℕ → ℕ → List ℕ
key_of Column layer line along = layer ∷ line ∷ along ∷ []
key_of Row layer line along = layer ∷ along ∷ line ∷ []

pub to-line : (axis : Axis) (ns : List MeshNode) (k l a b : ℕ) → place_of (nth ns k) ≡ key_of axis l a b → place_of (nth (all_facing axis ns) k) ≡ l ∷ a ∷ b ∷ []
to-line axis ns k l a b e = ap place_of (facing_at axis ns k) ∙ go axis e
  where
    go : (axis : Axis) → place_of (nth ns k) ≡ key_of axis l a b → place_of (facing axis (nth ns k)) ≡ l ∷ a ∷ b ∷ []
    go Column e = e
    go Row e = λ t. num (e t) 0 ∷ num (e t) 2 ∷ num (e t) 1 ∷ []

pub from-line : (axis : Axis) (ns : List MeshNode) (k l a b : ℕ) → place_of (nth (all_facing axis ns) k) ≡ l ∷ a ∷ b ∷ [] → place_of (nth ns k) ≡ key_of axis l a b
from-line axis ns k l a b e = go axis (sym (ap place_of (facing_at axis ns k)) ∙ e)
  where
    go : (axis : Axis) → place_of (facing axis (nth ns k)) ≡ l ∷ a ∷ b ∷ [] → place_of (nth ns k) ≡ key_of axis l a b
    go Column e = e
    go Row e = λ t. num (e t) 0 ∷ num (e t) 2 ∷ num (e t) 1 ∷ []

pub one_place : (n m : MeshNode) → same_place n m ≡ true → place_of n ≡ place_of m
one_place n m e =
    let t = both (eqb n.layer m.layer) (eqb n.x m.x && eqb n.y m.y) e in
    let s = both (eqb n.x m.x) (eqb n.y m.y) t.1 in
    λ i. eqb-true n.layer m.layer t.0 i ∷ eqb-true n.x m.x s.0 i ∷ eqb-true n.y m.y s.1 i ∷ []

pub place-one : (n m : MeshNode) → place_of n ≡ place_of m → same_place n m ≡ true
place-one n m e =
    both_of (eqb n.layer m.layer) (eqb n.x m.x && eqb n.y m.y) (eq-eqb n.layer m.layer (ap (λ (l : List ℕ). num l 0) e))
    (both_of (eqb n.x m.x) (eqb n.y m.y) (eq-eqb n.x m.x (ap (λ (l : List ℕ). num l 1) e)) (eq-eqb n.y m.y (ap (λ (l : List ℕ). num l 2) e)))
