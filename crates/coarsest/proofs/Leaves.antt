-- The leaves by their boxes are told by the roots and the splitting. Assumes nothing.
use Rattle.std.proofs.Common.{ℕ, ◌≡◌, refl, sym, ap, ◌∙◌, false, List, None, Some}
use Rattle.cell.specs.Boxes.{Box}
use Rattle.table.specs.Mesh.{Cell, at}
use Rattle.table.specs.Formed.{Formed}
use Rattle.coarsest.specs.Names.{Route, HasLeaf, ◌⊆◌, place, roots_of, find, splitting}
use Rattle.coarsest.proofs.Find.{find-rooted, is-root, root_is, stands_of, stands-found, at_leaf, tells, named}
use Rattle.coarsest.proofs.Least.{stands-more}

whole-unsplit : (t : List Cell) (r : ℕ) (p : Route) (i : ℕ) → find t r p ≡ Some i → (at t i).kids ≡ None → splitting t r p ≡ false
unfolding splitting
whole-unsplit t r p i f k = rw (f, k) refl

-- a cell of a table stands in any other of the same roots that splits no less
pub found-over : (t u : List Cell) → ((r : ℕ) → roots_of u r ≡ roots_of t r) → splitting t ⊆ splitting u
    → (r : ℕ) (p : Route) (i : ℕ) → find t r p ≡ Some i → (j : ℕ) × (find u r p ≡ Some j)
found-over t u roots more r p i f =
    let top = root_is t r (find-rooted t r p i f) in
    stands-found u r p (is-root u r (at t r).box (roots r ∙ top)).0 (stands-more (splitting u) (splitting t) more r p (stands_of t r p i f))

pub same-leaves : (M : ℕ) (t u : List Cell) → Formed M t → Formed M u → ((r : ℕ) → roots_of t r ≡ roots_of u r)
    → ((r : ℕ) (p : Route) → splitting t r p ≡ splitting u r p) → (B : Box) → HasLeaf t B → HasLeaf u B
same-leaves M t u ft fu roots same B l =
    let n = named M t ft l.id l.inside in
    let r = n.root in
    let p = n.path in
    let top = is-root u r (at t r).box (sym (roots r) ∙ root_is t r (find-rooted t r p l.id n.found)) in
    let f = found-over t u (λ s. sym (roots s)) (λ s q e. sym (same s q) ∙ e) r p l.id n.found in
    let here = tells M t ft r p l.id n.found in
    let there = tells M u fu r p f.0 f.1 in
    record {
      id = f.0;
      inside = there.inside;
      whole = at_leaf u r p f.0 f.1 (sym (same r p) ∙ whole-unsplit t r p l.id n.found l.whole);
      box = there.box ∙ ap (λ (A : Box). place A p) top.1 ∙ sym here.box ∙ l.box;
    }
