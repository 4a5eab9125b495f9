-- Splittings, with no table: the step that every admissible splitting must take, and the laws of the coarsest one.
-- Assumes nothing.
use Rattle.std.proofs.Common.{◌≡◌, refl, sym, Bool, true, false, Some, ◌∷◌, ℕ, zero, suc, ◌+◌, ◌<◌, ◌≤◌, arith, length}
use Rattle.cell.specs.Boxes.{Box, Quad, shares_edge}
use Rattle.coarsest.specs.Names.{Route, Splitting, Roots, place, Stands, Leaf, Admissible, ◌⊆◌, Coarsest}
use Rattle.cell.proofs.Contact.{shares-quadrant}

-- from a cell of S that shares an edge with B, down to a leaf that does, no coarser. n bounds the levels left
module _ (k M : ℕ) (R : Roots) (S : Splitting) (adm : Admissible k M R S) where
  record Down (r l : ℕ) (B : Box) : Type 0 where
    path : Route
    box : Box
    leaf : Leaf R S r path box
    fine : l ≤ length path
    shares : shares_edge box B ≡ true

  -- one step, given the way down from every cell one level finer
  here : (l r : ℕ) (A B : Box) (p : Route) → l ≤ length p → R r ≡ Some A → Stands S r p → shares_edge (place A p) B ≡ true
      → ((q : Quad) → S r p ≡ true → shares_edge (place A (q ∷ p)) B ≡ true → Down r l B) → Down r l B
  here l r A B p h known st sh further = go (S r p) refl
    where
      go : (t : Bool) → S r p ≡ t → Down r l B
      go true e = let f = shares-quadrant (place A p) B sh in further f.0 e f.1
      go false e = record { path = p; box = place A p; leaf = record { root = A; known = known; placed = refl; stands = st; whole = e }; fine = h; shares = sh }

  descend : (n l r : ℕ) (A B : Box) (p : Route) → l ≤ length p → R r ≡ Some A → M ≤ length p + n → Stands S r p → shares_edge (place A p) B ≡ true → Down r l B
  descend zero l r A B p h known bound st sh =
      here l r A B p h known st sh (λ q e sh'. let d : length p < M = adm.deep r p e in absurd (omega arith))
  descend (suc n) l r A B p h known bound st sh =
      here l r A B p h known st sh (λ q e sh'. descend n l r A B (q ∷ p) (omega arith) known (omega arith) e sh')

  -- the step: where a leaf-or-finer cell of S shares an edge with a cell that is coarser by more than k levels, S splits that one
  pub forced : (r s : ℕ) (p q : Route) (A B : Box) → R r ≡ Some A → R s ≡ Some B → Stands S r p → Stands S s q
      → length q + k < length p → shares_edge (place A p) (place B q) ≡ true → S s q ≡ true
  forced r s p q A B kr ks st su finer sh = go (S s q) refl
    where
      go : (t : Bool) → S s q ≡ t → S s q ≡ true
      go true e = e
      go false e =
          let d = descend M (length p) r A (place B q) p (omega arith) kr (omega arith) st sh in
          let leaf : Leaf R S s q (place B q) = record { root = B; known = ks; placed = refl; stands = su; whole = e } in
          let far : length d.path ≤ length q + k = adm.even r s d.path q d.box (place B q) d.leaf leaf d.shares in
          let near : length p ≤ length d.path = d.fine in
          absurd (omega arith)

-- the coarsest one is one, grows with what it keeps, and may be taken in parts
pub bool-ext : (x y : Bool) → (x ≡ true → y ≡ true) → (y ≡ true → x ≡ true) → x ≡ y
bool-ext true y f g = sym (f refl)
bool-ext false true f g = g refl
bool-ext false false f g = refl

module _ (k M : ℕ) (R : Roots) where
  pub coarsest-grows : (T U C D : Splitting) → Coarsest k M R T C → Coarsest k M R U D → T ⊆ U → C ⊆ D
  coarsest-grows T U C D c d h = c.least D d.admissible (λ r p e. d.keeps r p (h r p e))

  pub coarsest-one : (T C D : Splitting) → Coarsest k M R T C → Coarsest k M R T D → (r : ℕ) (p : Route) → C r p ≡ D r p
  coarsest-one T C D c d r p =
      bool-ext (C r p) (D r p) (coarsest-grows T T C D c d (λ r p e. e) r p) (coarsest-grows T T D C d c (λ r p e. e) r p)

  -- U keeps T's splits and adds some, W keeps C's and adds the same ones: both come to the same
  pub coarsest-parts : (T U C W D E : Splitting) → Coarsest k M R T C → Coarsest k M R U D → Coarsest k M R W E → T ⊆ U → U ⊆ W
      → ((S : Splitting) → C ⊆ S → U ⊆ S → W ⊆ S) → (r : ℕ) (p : Route) → D r p ≡ E r p
  coarsest-parts T U C W D E c d e tu uv join r p =
      bool-ext (D r p) (E r p) (coarsest-grows U W D E d e uv r p)
      (e.least D d.admissible (join D (coarsest-grows T U C D c d tu) d.keeps) r p)
