-- The rows that have no mark have nothing due, and what is marked after a pass is all that can be. Assumes nothing.
use mathlib.Core.Logic.{by_cases}
use Rattle.std.proofs.Common.{ℕ, zero, suc, ◌+◌, ◌-◌, ◌<◌, ◌≤◌, ◌≡◌, sym, ap, ◌∙◌, true, false, true≢false, Some, List, arith, add-zero, add-suc, length}
use native.Mathlib.Decide.{dec_lt}
use Rattle.cell.specs.Boxes.{Quad, num, quad_at}
use Rattle.cell.proofs.Contact.{shares-sym}
use Rattle.table.specs.Mesh.{Cell, at}
use Rattle.table.specs.Formed.{Formed}
use Rattle.table.proofs.Meshes.{num-below, kids-in}
use Rattle.table.proofs.Wellformed.{num-quad}
use Rattle.coarsest.specs.declared.Engine.{Engine}
use Rattle.coarsest.specs.declared.Engine.TheVariants.{Balancing, Conforming}
use Rattle.coarsest.specs.Passes.{is_due}
use Rattle.coarsest.specs.Sweep.{rows}
use Rattle.coarsest.proofs.Least.{due-of, level-most}
use Rattle.coarsest.proofs.Sweep.{rows-next, rows-keeps}
use Rattle.coarsest.proofs.Rows.{row-none}
use Rattle.coarsest.proofs.Settled.{Calm, calm-keeps}
use Rattle.search.specs.declared.marks.Marks.{Marks}
use Rattle.search.specs.declared.marks.Levels.{Levels}
use Rattle.search.specs.Marks.{mark_at, KeepsMarks, Wanted, Marked, MarksEach, IsOfFour, Unmarked}
use Rattle.search.proofs.Marking.{kid-meets}
use Rattle.even.proofs.Pairs.{no_true}
use Rattle.even.specs.declared.evener.Evener.{Evener}
use Rattle.even.specs.Watch.{Watched, Settled, Reaches, Met}

-- ---- rows without a mark

module _ (e : Engine) (k n : ℕ) (marks : Marks) (T : List Cell) (long : n ≤ length T)
    (watched : (a b : ℕ) → a < n → b < n → is_due e k T a b ≡ true → mark_at marks a ≡ true) where
  calm : (a : ℕ) → a < n → mark_at marks a ≡ false → Calm e k n a n T
  calm a h u = record { long = long; calm = λ b l. no_true (is_due e k T a b) (λ d. true≢false (sym (watched a b h l d) ∙ u)) }

  -- from a on, d rows without a mark
  pub rows_on : (a d : ℕ) → a + d ≤ n → Unmarked marks a (a + d) → rows e k n T (a + d) ≡ rows e k n T a
  rows_on a zero h u = ap (rows e k n T) (add-zero a)
  rows_on a (suc d) h u =
      let i : a + d < n = omega arith in
      let c = rows-keeps e k n (Calm e k n (a + d) n) (calm-keeps e k n (a + d) n i (omega arith)) T (a + d) (omega arith) long
      (calm (a + d) i (u (a + d) (omega arith) (omega arith))) in
      ap (rows e k n T) (add-suc a d) ∙ rows-next e k n T (a + d) ∙ row-none e k (rows e k n T (a + d)) (a + d) n c.calm ∙ rows_on a d (omega arith) (λ j g l. u j g (omega arith))

  pub rows-to : (a r : ℕ) → a ≤ r → r ≤ n → Unmarked marks a r → rows e k n T r ≡ rows e k n T a
  rows-to a r l h u =
      let q : a + (r - a) ≡ r = omega arith in
      sym (ap (rows e k n T) q) ∙ rows_on a (r - a) (omega arith) (λ i g b. u i g (omega arith))

-- ---- new cells

module _ (e : Engine) (k M : ℕ) (t : List Cell) (formed : Formed M t) (p f : ℕ) (levels : Levels) (kids : (at t p).kids ≡ Some f)
    (spans : (x : ℕ) → Reaches e k M ((at t p).level + 1) x → (levels.low ≤ x) × (x ≤ levels.high)) where
  wanted_by : (d : Engine) → ((x : ℕ) → Reaches d k M ((at t p).level + 1) x → (levels.low ≤ x) × (x ≤ levels.high)) → (q : Quad) (y a : ℕ) → y ≡ f + num q → a < length t
      → is_due d k t a y ≡ true → Wanted t p levels a
  wanted_by Balancing sp q y a z ha due =
      let w = due-of k t a y due in
      let l = ap (λ (x : ℕ). (at t x).level) z ∙ ((formed.split p f kids).kid q).level in
      let g = w.apart in
      let m = level-most M t formed a ha in
      let s = sp (at t a).level (omega arith, m) in
      record { leaf = w.fine; fine = s.0; coarse = s.1; meets = kid-meets M t formed p f y a q kids z ha w.shares }
  wanted_by Conforming sp q y a z ha due =
      let w = due-of k t y a due in
      let l = ap (λ (x : ℕ). (at t x).level) z ∙ ((formed.split p f kids).kid q).level in
      let g = w.apart in
      let s = sp (at t a).level (omega arith) in
      record { leaf = w.coarse; fine = s.0; coarse = s.1; meets = kid-meets M t formed p f y a q kids z ha (shares-sym (at t y).box (at t a).box w.shares) }

  pub kid-met : (n : ℕ) → n ≤ length t → (old mid new : Marks) → Marked (λ (a : ℕ). a < n) (Wanted t p levels) old mid
      → MarksEach (IsOfFour f) mid new → (y : ℕ) → f ≤ y → y < f + 4
      → (mark_at new y ≡ true) × ((a : ℕ) → a < n → is_due e k t a y ≡ true → mark_at new a ≡ true)
  kid-met n hn old mid new near four y l h =
      let q = quad_at (y - f) in
      let g = num-quad (y - f) (omega arith) in
      let z : y ≡ f + num q = omega arith in (
        four.marked y (l, h) tt,
        λ a ha d. four.kept a (near.marked a ha (wanted_by e spans q y a z (omega arith) d)),
      )

-- more marks
pub met-kept : (s : Evener) (t : List Cell) (old new : Marks) (y : ℕ) → KeepsMarks old new → Met s t old y → Met s t new y
met-kept s t old new y x m = record { own = x y m.own; others = λ a h d. x a (m.others a h d) }

-- all new cells are met, and the old ones settled
pub watched-new : (s : Evener) (t : List Cell) (marks : Marks) (stop : ℕ) → Settled s t stop
    → ((y : ℕ) → stop ≤ y → y < length t → Met s t marks y) → Watched s t marks
watched-new s t marks stop settled met a b ha hb d =
    by_cases (dec_lt b stop)
    (λ l. by_cases (dec_lt a stop) (λ g. absurd (true≢false (sym d ∙ settled a b g l))) (λ g. (met a (omega arith) ha).own))
    (λ l. (met b (omega arith) hb).others a ha d)

-- ---- the four that a new cell is one of

pub record Group (t : List Cell) (parent x : ℕ) : Type 0 where
  pub first : ℕ
  pub inside : parent < length t
  pub kids : (at t parent).kids ≡ Some first
  pub low : first ≤ x
  pub high : x < first + 4
  pub below : first + 4 ≤ length t

pub group-of : (M : ℕ) (t : List Cell) → Formed M t → (p x : ℕ) → x < length t → (at t x).parent ≡ Some p → Group t p x
group-of M t formed p x h e =
    let b = formed.born x p h e in
    let s = (formed.split p b.first b.split).below in
    let q = num-below b.place in
    let g = b.here in
    record {
      first = b.first;
      inside = kids-in t p b.first b.split;
      kids = b.split;
      low = omega arith;
      high = omega arith;
      below = omega arith;
    }
