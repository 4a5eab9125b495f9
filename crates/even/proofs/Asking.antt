-- A row of balance by its searches: what the split of the least leaf that is due makes, and what it needs. Assumes nothing.
use Rattle.std.proofs.Common.{ℕ, ◌+◌, ◌<◌, ◌≤◌, ◌≡◌, sym, subst, ◌∙◌, true, List, arith, Ok, Err, None}
use Rattle.refusals.specs.declared.Refusal.{Refusal}
use Rattle.table.specs.Mesh.{Cell, at, split}
use Rattle.table.specs.Tables.{cells}
use Rattle.coarsest.specs.declared.Engine.TheVariants.{Balancing}
use Rattle.coarsest.specs.Passes.{due}
use Rattle.coarsest.specs.Sweep.{row}
use Rattle.coarsest.proofs.Least.{due-of, level-most}
use Rattle.search.specs.declared.around.Around.{Around}
use Rattle.search.specs.Search.{Least}
use Rattle.search.specs.Around.{owes}
use Rattle.table.specs.declared.edit.TableMut.{TableMut}
use Rattle.table.specs.TablesMut.{cells_mut}
use Rattle.even.specs.Makes.{Makes}
use Rattle.even.proofs.Going.{On, on-as, on_then, full_then, formed_of, length-of}
use Rattle.even.proofs.Turns.{row-ended, row-split, row-room}

-- a search round a cell of a table, said of the table
pub owed : (g : Around) (t : List Cell) (k a n from stop c : ℕ) → cells g.table ≡ t → g.cell ≡ a → g.table.head.count ≡ n
    → Least (owes g k) (λ (b : ℕ). b < g.table.head.count) from stop c → Least (due k t a) (λ (b : ℕ). b < n) from stop c
owed g t k a n from stop c e f h x =
    subst (λ (y : List Cell). Least (due k y a) (λ (b : ℕ). b < n) from stop c) e
    (subst (λ (y : ℕ). Least (due k (cells g.table) y) (λ (b : ℕ). b < n) from stop c) f
    (subst (λ (y : ℕ). Least (due k (cells g.table) g.cell) (λ (b : ℕ). b < y) from stop c) h x))

-- u came from s by a's pairs before `from`, and c is the least that is due from there on
module _ (k : ℕ) (s u : TableMut) (a from stop c : ℕ) (o : On (row Balancing k (cells_mut s) a from) s u)
    (hb : from ≤ stop) (hs : stop ≤ s.head.count) (ha : a < stop) (g : Around) (gt : cells g.table ≡ cells_mut u)
    (gn : g.table.head.count ≡ u.head.count) (ga : g.cell ≡ a)
    (x : Least (owes g k) (λ (b : ℕ). b < g.table.head.count) from stop c) where
  least : Least (due k (cells_mut u) a) (λ (b : ℕ). b < u.head.count) from stop c
  least = owed g (cells_mut u) k a u.head.count from stop c gt ga gn x

  inside : stop ≤ u.head.count
  inside = omega (arith, o.goes_on.more)

  pub ended : stop ≤ c → On (row Balancing k (cells_mut s) a stop) s u
  ended h = on-as (sym o.cells ∙ row-ended k (cells_mut s) (cells_mut u) u.head.count a from stop c o.cells hb inside least h) o

  module _ (h : c < stop) where
    asks : due k (cells_mut u) a c ≡ true
    asks = (least.found h).1

    pub leaf : (at (cells_mut u) c).kids ≡ None
    leaf = (due-of k (cells_mut u) a c asks).coarse

    pub finer : (at (cells_mut u) c).level < u.head.max_level
    finer =
        let i = inside in
        let m = level-most u.head.max_level (cells_mut u) (formed_of u) a (rw length-of (omega arith)) in
        let p = (due-of k (cells_mut u) a c asks).apart in
        omega arith

    module _ (v : TableMut) where
      pub next : {A : Type 0} (y : A) → Makes (split (cells_mut u) c) u v {A = A} (Ok y)
          → On (row Balancing k (cells_mut s) a (c + 1)) s v
      next y m =
          on-as (row-split k (cells_mut s) (cells_mut u) u.head.count a from stop c o.cells hb inside least h)
          (on_then (row Balancing k (cells_mut s) a from) (split (cells_mut u) c) (cells_mut u) s u v o y m)

      pub full : {A B : Type 0} (e : Refusal) → Makes (split (cells_mut u) c) u v {A = A} (Err e)
          → Makes (row Balancing k (cells_mut s) a stop) s v {A = B} (Err e)
      full e m =
          full_then (row Balancing k (cells_mut s) a from) (split (cells_mut u) c)
          (row Balancing k (cells_mut s) a stop) s u v o e m
          (row-room k (cells_mut s) (cells_mut u) u.head.count a from stop c o.cells hb inside least h ha
          (rw length-of hs))
