-- The turns of a pass, and of the passes. Assumes nothing.
use Rattle.std.proofs.Common.{ℕ, ◌+◌, ◌<◌, ◌≤◌, ◌≡◌, refl, sym, ap, ap₂, subst, ◌∙◌, false, List, arith, length, Ok, Err}
use Rattle.refusals.specs.declared.Refusal.{Refusal}
use Rattle.table.specs.Mesh.{Cell, leaf_count}
use Rattle.table.specs.Formed.{Formed}
use Rattle.coarsest.specs.declared.Engine.{Engine}
use Rattle.coarsest.specs.Passes.{is_due, pass, evened, splits_left}
use Rattle.coarsest.specs.Sweep.{row, rows}
use Rattle.coarsest.proofs.Passes.{pass_same}
use Rattle.coarsest.proofs.Adding.{same-cells, pass-more}
use Rattle.coarsest.proofs.Settled.{settled}
use Rattle.coarsest.proofs.Evened.{pass-formed, pass-left, evened-stop, evened-pass, evened-grown}
use Rattle.table.specs.declared.edit.TableMut.{TableMut}
use Rattle.table.specs.TablesMut.{cells_mut}
use Rattle.search.specs.declared.roots.Roots.{Roots}
use Rattle.search.specs.Roots.{Indexes}
use Rattle.even.specs.Makes.{GoesOn, Makes}
use Rattle.even.proofs.Going.{On, on-as, on_then, full_then, goes_then, formed_of, length-of, leaves-of}
use Rattle.even.proofs.Turns.{rows_next, rows-room}

-- u came from s by the rows before a's
module _ (e : Engine) (k : ℕ) (s u : TableMut) (a : ℕ) (o : On (rows e k s.head.count (cells_mut s) a) s u) (h : a < s.head.count) where
  abbrev n : ℕ
  n = s.head.count

  module _ (v : TableMut) where
    pub pass-next : {A : Type 0} (y : A) → Makes (row e k (cells_mut u) a n) u v {A = A} (Ok y) → On (rows e k n (cells_mut s) (a + 1)) s v
    pass-next y m =
        on-as (rows_next e k (cells_mut s) (cells_mut u) n a o.cells)
        (on_then (rows e k n (cells_mut s) a) (row e k (cells_mut u) a n) (cells_mut u) s u v o y m)

    pub pass-full : {A B : Type 0} (w : Refusal) → Makes (row e k (cells_mut u) a n) u v {A = A} (Err w)
        → Makes (pass e k (cells_mut s)) s v {A = B} (Err w)
    pass-full w m =
        full_then (rows e k n (cells_mut s) a) (row e k (cells_mut u) a n) (pass e k (cells_mut s)) s u v o w m
        (rows-room e k (cells_mut s) (cells_mut u) n a (length-of s) h o.cells)

-- u came from s by passes, and leads to the same end
module _ (e : Engine) (k : ℕ) (s u : TableMut) (g : GoesOn s u)
    (same : evened e k s.head.max_level (cells_mut u) ≡ evened e k s.head.max_level (cells_mut s)) where
  abbrev M : ℕ
  M = s.head.max_level

  formed : Formed M (cells_mut u)
  formed = subst (λ (m : ℕ). Formed m (cells_mut u)) g.max_level (formed_of u)

  -- the end after one pass more
  on-end : evened e k M (pass e k (cells_mut u)) ≡ evened e k M (cells_mut s)
  on-end = evened-pass e k M (cells_mut u) formed ∙ same

  arrived : On (cells_mut u) s u
  arrived = record { goes_on = g; cells = refl }

  module _ (v : TableMut) where
    pub passes-full : {A B : Type 0} (w : Refusal) → Makes (pass e k (cells_mut u)) u v {A = A} (Err w)
        → Makes (evened e k M (cells_mut s)) s v {A = B} (Err w)
    passes-full w m =
        full_then (cells_mut u) (pass e k (cells_mut u)) (evened e k M (cells_mut s)) s u v arrived w m
        (omega (arith, evened-grown e k M (pass e k (cells_mut u)) (pass-formed e k M (cells_mut u) formed), ap length on-end))

    module _ {A : Type 0} (y : A) (m : Makes (pass e k (cells_mut u)) u v {A = A} (Ok y)) where
      pub passes-goes : GoesOn s v
      passes-goes = goes_then s u v g m.goes_on

      pub passes-same : evened e k M (cells_mut v) ≡ evened e k M (cells_mut s)
      passes-same = ap (evened e k M) m.cells ∙ on-end

      leaves : leaf_count (pass e k (cells_mut u)) ≡ v.head.leaves
      leaves = ap leaf_count (sym m.cells) ∙ leaves-of v

      -- a pass without a split is the last
      pub passes-done : v.head.leaves ≡ u.head.leaves → On (evened e k M (cells_mut s)) s v
      passes-done q =
          let d : length (pass e k (cells_mut u)) ≡ length (cells_mut u) = same-cells e k (cells_mut u) (leaves ∙ q ∙ sym (leaves-of u)) in
          record {
            goes_on = passes-goes;
            cells = m.cells ∙ pass_same e k (cells_mut u) d ∙ sym (evened-stop e k M (cells_mut u) formed d) ∙ same;
          }

      -- and one with a split leaves fewer
      pub passes-left : (v.head.leaves ≡ u.head.leaves → ⊥)
          → splits_left v.head.max_level (cells_mut v) < splits_left u.head.max_level (cells_mut u)
      passes-left ne =
          let l = pass-left e k M (cells_mut u) formed (pass-more e k (cells_mut u) (λ x. ne (sym leaves ∙ x ∙ leaves-of u))) in
          omega (
            arith,
            l,
            ap₂ splits_left m.goes_on.max_level m.cells,
            ap (λ (x : ℕ). splits_left x (pass e k (cells_mut u))) g.max_level,
            ap (λ (x : ℕ). splits_left x (cells_mut u)) g.max_level,
          )

      -- the cells of its start are settled
      pub passes-settled : (t : List Cell) → t ≡ cells_mut v → (a b : ℕ) → a < u.head.count → b < u.head.count → is_due e k t a b ≡ false
      passes-settled t q a b ha hb =
          ap (λ (t : List Cell). is_due e k t a b) (q ∙ m.cells) ∙ settled e k (cells_mut u) a b (rw length-of ha) (rw length-of hb)

-- the roots of a table that is indexed
pub roots-inside : (r : Roots) (u : TableMut) → Indexes r (cells_mut u) → r.end ≤ u.head.count
roots-inside r u x = omega (arith, x.inside, length-of u)
