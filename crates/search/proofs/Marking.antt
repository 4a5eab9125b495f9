-- Marks put together from parts of what is to be seen. Assumes nothing.
use Rattle.std.proofs.Common.{ℕ, ◌+◌, ◌<◌, ◌≤◌, ◌≡◌, sym, ap, subst, ◌∙◌, true, false, true≢false, ◌⊎◌, ⊎_elim, None, Some, List, arith, length}
use Rattle.cell.specs.Boxes.{Quad, num, quadrant, shares_edge}
use Rattle.table.specs.Mesh.{Cell, at}
use Rattle.table.specs.Formed.{Formed}
use Rattle.table.proofs.Meshes.{num-below, kids-in}
use Rattle.search.specs.Search.{meet, Under}
use Rattle.search.specs.declared.marks.Marks.{Marks}
use Rattle.search.specs.declared.marks.Levels.{Levels}
use Rattle.search.specs.Marks.{Wanted, Marked, MarksEach}
use Rattle.search.proofs.Meeting.{Meet, Above, under-above, meet-is, of-meet, shares-meet, quadrant-meet, straight}
use Rattle.search.proofs.Least.{Among, under-leaf, among_next, among_kids}
use Rattle.search.proofs.Rooted.{Aside}

module _ (wanted : ℕ → Type 0) where
  -- nothing of what is seen is wanted
  pub marked-none : (seen : ℕ → Type 0) (old : Marks) → ((a : ℕ) → seen a → wanted a → ⊥) → Marked seen wanted old old
  marked-none seen old h = record { kept = λ a e. e; marked = λ a s w. absurd (h a s w) }

  -- more to see
  pub marked-then : (seen more : ℕ → Type 0) (old mid new : Marks) → Marked seen wanted old mid → Marked more wanted mid new
      → Marked (λ (a : ℕ). seen a ⊎ more a) wanted old new
  marked-then seen more old mid new x y =
      record {
        kept = λ a e. y.kept a (x.kept a e);
        marked = λ a s w. ⊎_elim (λ v. y.kept a (x.marked a v w)) (λ v. y.marked a v w) s;
      }

  -- the same of less
  pub marked-as : (seen less : ℕ → Type 0) (old new : Marks) → Marked seen wanted old new → ((a : ℕ) → less a → wanted a → seen a) → Marked less wanted old new
  marked-as seen less old new x h = record { kept = x.kept; marked = λ a s w. x.marked a (h a s w) w }

-- ---- the subtree of a cell

module _ (M : ℕ) (t : List Cell) (formed : Formed M t) (p : ℕ) (levels : Levels) (c : ℕ) where
  above : (a : ℕ) → Under t c a → Wanted t p levels a → Above M t formed (at t p).box c a
  above a u w = under-above M t formed (at t p).box c a u (meet-is (at t p).box (at t a).box w.meets)

  pub apart-unwanted : meet (at t p).box (at t c).box ≡ false → (a : ℕ) → Under t c a → Wanted t p levels a → ⊥
  apart-unwanted e a u w = true≢false (sym (of-meet (at t p).box (at t c).box (above a u w).meets) ∙ e)

  pub fine-unwanted : levels.high < (at t c).level → (a : ℕ) → Under t c a → Wanted t p levels a → ⊥
  fine-unwanted h a u w = let l = (above a u w).level in let g = w.coarse in omega arith

  -- c itself, where it is a leaf: marked, or too coarse
  module _ (leaf : (at t c).kids ≡ None) where
    pub leaf-marked : (old new : Marks) → MarksEach (λ (a : ℕ). c ≡ a) old new → Marked (Under t c) (Wanted t p levels) old new
    leaf-marked old new x = record { kept = x.kept; marked = λ a u w. x.marked a (under-leaf t c leaf a u) tt }

    pub leaf-unwanted : (at t c).level < levels.low → (a : ℕ) → Under t c a → Wanted t p levels a → ⊥
    leaf-unwanted h a u w =
        let f = w.fine in
        let g = ap (λ (y : ℕ). (at t y).level) (under-leaf t c leaf a u) in
        omega arith

  -- what the marking of the four marks, one after another
  module _ (f : ℕ) where
    pub next-marked : (j : ℕ) (old mid new : Marks) → Marked (Among t f j) (Wanted t p levels) old mid
        → Marked (Under t j) (Wanted t p levels) mid new → Marked (Among t f (j + 1)) (Wanted t p levels) old new
    next-marked j old mid new x y =
        let w = Wanted t p levels in
        marked-as w (λ (a : ℕ). Among t f j a ⊎ Under t j a) (Among t f (j + 1)) old new
        (marked-then w (Among t f j) (Under t j) old mid new x y) (λ a u v. among_next t f j a u)

    pub kids-marked : (j : ℕ) (old new : Marks) → (at t c).kids ≡ Some f → f + 4 ≤ j → Marked (Among t f j) (Wanted t p levels) old new
        → Marked (Under t c) (Wanted t p levels) old new
    kids-marked j old new kids h x =
        marked-as (Wanted t p levels) (Among t f j) (Under t c) old new x (λ a u v. among_kids t c f j kids h a u v.leaf)

-- roots that do not meet p
pub aside-unwanted : (M : ℕ) (t : List Cell) → Formed M t → (p : ℕ) (levels : Levels) (a : ℕ) → Aside t p a → Wanted t p levels a → ⊥
aside-unwanted M t formed p levels a s w = apart-unwanted M t formed p levels s.0 s.2 a s.3 w

-- a leaf that shares an edge with a child of p meets p
pub kid-meets : (M : ℕ) (t : List Cell) → Formed M t → (p f y a : ℕ) (q : Quad) → (at t p).kids ≡ Some f → y ≡ f + num q → a < length t
    → shares_edge (at t a).box (at t y).box ≡ true → meet (at t p).box (at t a).box ≡ true
kid-meets M t formed p f y a q kids e ha shares =
    let s = formed.split p f kids in
    let b = s.below in
    let g = num-below q in
    let hy : y < length t = omega arith in
    let box : (at t y).box ≡ quadrant (at t p).box q = ap (λ (x : ℕ). (at t x).box) e ∙ (s.kid q).box in
    let m = shares-meet (at t a).box (at t y).box (straight M t formed a ha) (straight M t formed y hy) shares in
    let u = quadrant-meet (at t a).box (at t p).box q (straight M t formed p (kids-in t p f kids)) (subst (Meet (at t a).box) box m) in
    of-meet (at t p).box (at t a).box (record { west = u.east; east = u.west; south = u.north; north = u.south })
