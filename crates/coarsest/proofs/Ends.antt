-- The laws of `balance` and `conform`, over the engine and the allowed difference: what they end in depends on the table's roots and
-- splitting alone, grows with it, may be reached in parts, is the one coarsest splitting and has the fewest cells. Assumes nothing.
use Rattle.std.proofs.Common.{◌≡◌, sym, subst, ◌∙◌, ◌||◌, ⊎_elim, List, ℕ, ◌≤◌, le_antisymm, length}
use mathlib.Core.Path.{fun_ext}
use Rattle.table.specs.Mesh.{Cell}
use Rattle.coarsest.specs.declared.Engine.{Engine}
use Rattle.coarsest.specs.declared.Engine.TheVariants.{Balancing, Conforming}
use Rattle.coarsest.specs.Passes.{pass, evened, balance, conform}
use Rattle.coarsest.proofs.Passes.{pass_same}
use Rattle.coarsest.specs.Names.{Route, Splitting, Roots, Admissible, Coarsest, HasCells, roots_of, splitting, ◌⊆◌, Evens, Needs}
use Rattle.coarsest.specs.Laws.{SameRoots}
use Rattle.table.specs.Formed.{Formed}
use Rattle.cell.proofs.Contact.{or_cases, or_right}
use Rattle.coarsest.proofs.Forced.{coarsest-grows, coarsest-one, coarsest-parts}
use Rattle.coarsest.proofs.Evened.{evened-calm, evened-coarsest, evened-formed, evened-roots}
use Rattle.coarsest.proofs.Count.{cells-fewer}
use Rattle.coarsest.proofs.Numbered.{formed-cells}

module _ (k M : ℕ) where
  -- the coarsest splitting, of the roots of another table that has the same
  coarsest-of : (e : Engine) (t u : List Cell) → Formed M t → SameRoots t u → Coarsest k M (roots_of u) (splitting t) (splitting (evened e k M t))
  coarsest-of e t u ft s = subst (λ (R : Roots). Coarsest k M R (splitting t) (splitting (evened e k M t))) (fun_ext s) (evened-coarsest e k M t ft)

  -- if one splitting contains another, so do the forms that they end in. The engines may differ
  pub evened-grows : (e d : Engine) (t u : List Cell) → Formed M t → Formed M u → SameRoots t u → splitting t ⊆ splitting u
      → splitting (evened e k M t) ⊆ splitting (evened d k M u)
  evened-grows e d t u ft fu s h =
      coarsest-grows k M (roots_of u) (splitting t) (splitting u) (splitting (evened e k M t)) (splitting (evened d k M u))
      (coarsest-of e t u ft s) (evened-coarsest d k M u fu) h

  -- u is t with some splits more, and w is the evened t with u's splits: they end in the same
  pub evened-parts : (e : Engine) (t u w : List Cell) → Formed M t → Formed M u → Formed M w → SameRoots t u → SameRoots w u
      → splitting t ⊆ splitting u → ((r : ℕ) (p : Route) → splitting w r p ≡ (splitting (evened e k M t) r p || splitting u r p))
      → (r : ℕ) (p : Route) → splitting (evened e k M u) r p ≡ splitting (evened e k M w) r p
  evened-parts e t u w ft fu fw s s' tu or =
      coarsest-parts k M (roots_of u) (splitting t) (splitting u) (splitting (evened e k M t)) (splitting w) (splitting (evened e k M u)) (splitting (evened e k M w))
      (coarsest-of e t u ft s) (evened-coarsest e k M u fu) (coarsest-of e w u fw s') tu
      (λ r p h. or r p ∙ or_right (splitting (evened e k M t) r p) (splitting u r p) h)
      (λ S f g r p h. ⊎_elim (f r p) (g r p) (or_cases (splitting (evened e k M t) r p) (splitting u r p) (sym (or r p) ∙ h)))

-- one pass more changes nothing
pub evened-passed : (e : Engine) (k M : ℕ) (t : List Cell) → Formed M t → pass e k (evened e k M t) ≡ evened e k M t
evened-passed e k M t ft = pass_same e k (evened e k M t) (evened-calm e k M t ft)

-- ---- what the passes end in, by names

module _ (e : Engine) (k M : ℕ) (t : List Cell) (formed : Formed M t) where
  pub evened-evens : Evens k M t (evened e k M t)
  evened-evens = record { formed = evened-formed e k M t formed; roots = evened-roots e k M t formed; coarsest = evened-coarsest e k M t formed }

  -- there is exactly one coarsest splitting
  pub evened-only : (C : Splitting) → Coarsest k M (roots_of t) (splitting t) C → (r : ℕ) (p : Route) → C r p ≡ splitting (evened e k M t) r p
  evened-only C c = coarsest-one k M (roots_of t) (splitting t) C (splitting (evened e k M t)) c (evened-coarsest e k M t formed)

  evened-cells : HasCells (roots_of t) (splitting (evened e k M t)) (length (evened e k M t))
  evened-cells =
      subst (λ (R : Roots). HasCells R (splitting (evened e k M t)) (length (evened e k M t))) (fun_ext (evened-roots e k M t formed))
      (formed-cells M (evened e k M t) (evened-formed e k M t formed))

  -- the coarsest splitting has as many cells as what the passes end in, and that number is the only one
  pub evened-needs : Needs k M t (length (evened e k M t))
  evened-needs = record { splits = splitting (evened e k M t); coarsest = evened-coarsest e k M t formed; cells = evened-cells }

  -- an admissible splitting that keeps the table's splits has no fewer cells
  pub evened-fewest : (S : Splitting) (n : ℕ) → Admissible k M (roots_of t) S → splitting t ⊆ S → HasCells (roots_of t) S n → length (evened e k M t) ≤ n
  evened-fewest S n adm h c =
      cells-fewer (roots_of t) (splitting (evened e k M t)) S (length (evened e k M t)) n ((evened-coarsest e k M t formed).least S adm h) evened-cells c

  pub needs-one : (n : ℕ) → Needs k M t n → n ≡ length (evened e k M t)
  needs-one n w =
      le_antisymm
      (cells-fewer (roots_of t) w.splits (splitting (evened e k M t)) n (length (evened e k M t))
      (w.coarsest.least (splitting (evened e k M t)) (evened-coarsest e k M t formed).admissible (evened-coarsest e k M t formed).keeps) w.cells evened-cells)
      (evened-fewest w.splits n w.coarsest.admissible w.coarsest.keeps w.cells)

-- balance and conform
module _ (M : ℕ) (t : List Cell) (formed : Formed M t) where
  pub balance-evens : Evens 1 M t (balance M t)
  unfolding balance
  balance-evens = evened-evens Balancing 1 M t formed

  pub conform-evens : Evens 0 M t (conform M t)
  unfolding conform
  conform-evens = evened-evens Conforming 0 M t formed
