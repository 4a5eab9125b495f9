-- What the check finds at a place is the one node of the net there, and what it takes for joined is an edge of the net. Assumes nothing.
use Rattle.std.proofs.Common.{◌≡◌, sym, ap, ◌∙◌, Bool, true, List, map, ℕ, zero, suc, ◌+◌, ◌<◌, ◌≤◌, arith, eqb, eqb-true, length, eq-eqb, add-one, Some}
use Rattle.std.specs.Ordering.{int_eq}
use Rattle.std.proofs.lemmas.Bool.Decides.{nat_tests, Decides-int_eq}
use Rattle.std.proofs.lemmas.List.{length-map, get_or-map}
use Rattle.std.proofs.lemmas.List.Folds.{list_any_at}
use Rattle.refusals.specs.Limits.{coordinate}
use Rattle.cell.specs.Ticks.{off, on}
use Rattle.cell.proofs.Offsets.{off-on}
use Rattle.net_rows.specs.Nodes.{in_ticks}
use Rattle.net_rows.specs.Nets.{no_node, nth_node}
use Rattle.checks.specs.declared.asked.Class.{Class}
use Rattle.checks.specs.declared.asked.Class.TheVariants.{Any, Of}
use Rattle.checks.specs.Nodes.{is_of, here, last_below, joins, joined, last_at}
use Rattle.checks.proofs.Lasts.{last_more}
use Rattle.net.specs.Net.{position_of, Poly, MeshNode, Edge, same_node, same_pair, nth, nowhere, number, node_at}
use Rattle.net.proofs.Positions.{position-hit}
use Rattle.net.proofs.Keys.{bool-ext}
use Rattle.net.proofs.All.{All, all-at}
use Rattle.net.proofs.Sound.{node-is}
use Rattle.net.proofs.Faces.{Within}

-- the largest coordinate of a cell
abbrev pub top : ℕ
top = coordinate + coordinate

-- nodes of a polygon's own layer and component
abbrev pub own_of : Poly → Class
own_of p = Of p.layer p.component

-- a node out of its row
pub row_at : (ns : List MeshNode) (i : ℕ) → i < length ns → nth_node (map in_ticks ns) i ≡ in_ticks (nth ns i)
row_at ns i h = get_or-map in_ticks ns i nowhere no_node h

-- the way back takes no two coordinates to one
on_same : (a b : ℕ) → a ≤ top → b ≤ top → int_eq (on a) (on b) ≡ eqb a b
on_same a b h k =
    bool-ext (int_eq (on a) (on b)) (eqb a b) (λ t. eq-eqb a b (sym (off-on a h) ∙ (ap off ((Decides-int_eq (on a) (on b)).0 t) ∙ off-on b k))) (λ t. (Decides-int_eq (on a) (on b)).1 (ap on (eqb-true a b t)))

-- the last index that passes does pass
pub last_some : (p : ℕ → Bool) (n i : ℕ) → last_below p n ≡ Some i → (i < n) × (p i ≡ true)
last_some p zero i e = let z : ◌≡◌ {A = ℕ} 0 1 = cc in absurd (omega arith)
last_some p (suc n) i e = grind (arith, ap (last_below p) (add-one n), last_more p n, last_some p n i)

-- what a test of nodes tells of one that passes: it is the node of the polygon p at the place
abbrev pub Tells : List MeshNode → Class → Poly → Type 0
Tells ns w p = (x y : ℕ) → x ≤ top → y ≤ top → (i : ℕ) → i < length ns → here w (on x) (on y) (in_ticks (nth ns i)) ≡ true → same_node (nth ns i) (node_at p x y) ≡ true

-- the node that is found is the one whose number the net has
pub found : (ns : List MeshNode) (w : Class) (p : Poly) → Tells ns w p → ((j : ℕ) → j < length ns → number ns (nth ns j) ≡ j) → (x y i : ℕ) → x ≤ top → y ≤ top
    → last_at (map in_ticks ns) w (on x) (on y) ≡ Some i → (i < length ns) × (number ns (node_at p x y) ≡ i)
found ns w p tells once x y i xs ys e =
    let r = last_some (λ n. here w (on x) (on y) (nth_node (map in_ticks ns) n)) (length (map in_ticks ns)) i e in
    let l = r.0 in
    let h : i < length ns = omega (arith, length-map ns in_ticks) in
    (h, ap (number ns) (sym (node-is (nth ns i) (node_at p x y) (tells x y xs ys i h (ap (here w (on x) (on y)) (sym (row_at ns i h)) ∙ r.1)))) ∙ once i h)

module _ (ns : List MeshNode) (low : All (Within top) ns) (p : Poly) where
  -- a node at a place, in ticks, has its coordinates
  there : (w : Class) (x y i : ℕ) → x ≤ top → y ≤ top → i < length ns → here w (on x) (on y) (in_ticks (nth ns i)) ≡ true
      → (eqb (nth ns i).x x ≡ true) × (eqb (nth ns i).y y ≡ true) × (is_of w (in_ticks (nth ns i)) ≡ true)
  unfolding here
  there w x y i xs ys h e = let l = all-at (Within top) nowhere ns i low h in grind (arith, on_same (nth ns i).x x l.0 xs, on_same (nth ns i).y y l.1 ys)

  -- those of the polygon's own layer and component
  pub own-tells : Tells ns (own_of p) p
  own-tells x y xs ys i h e =
      grind (arith, there (own_of p) x y i xs ys h e)

  -- all, where they are all of its layer and component
  pub any_tells : All (λ (m : MeshNode). (m.layer ≡ p.layer) × (m.component ≡ p.component)) ns → Tells ns Any p
  any_tells own x y xs ys i h e =
      let o = all-at (λ (m : MeshNode). (m.layer ≡ p.layer) × (m.component ≡ p.component)) nowhere ns i own h in
      grind (arith, nat_tests, o.0, o.1, there Any x y i xs ys h e)

-- an edge of the net joins its ends
pub joined_of : (es : List Edge) (x : Edge) → position_of same_pair es x < length es → joined es x.from x.to ≡ true
unfolding joins
joined_of es x h = list_any_at (joins x.from x.to) es (position_of same_pair es x) x h (position-hit same_pair es x x h)
