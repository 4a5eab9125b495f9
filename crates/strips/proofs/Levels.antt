-- Heights as they are lent and as a cell holds them: the same edges span a band. Assumes nothing.
use Rattle.std.proofs.Common.{ℕ, zero, suc, ◌+◌, ◌-◌, min, ◌<◌, ◌≤◌, ◌≡◌, refl, sym, ap, ap₂, ◌∙◌, eqb-true, to_z-of_z, FitsSigned, w64, of_z, to_z, Bool, true, not, ◌&&◌, ◌||◌, List, [], ◌⊎◌, ⊎_elim, arith, ℤ, pos, negsuc, leb, eqb, lt-ltb, le-ltb, le-leb, leb-true, eq-eqb, ne_eqb, length, get_or}
use mathlib.Core.Bool.{xor}
use lib.IntN.{sub_ℕ}
use lib.Signed.{le_z}
use borrow.Author.Tests.{lt-leb, eqb-false}
use Rattle.refusals.specs.Limits.{coordinate, max_points}
use Rattle.cell.specs.Ticks.{off, on, in_range}
use Rattle.cell.proofs.Offsets.{below?, on-is}
use Rattle.strips.specs.Rings.{y_at, after, edge_at, reaches, slants, slants_at, point_in_range, ring_in_range}
use Rattle.strips.specs.Levels.{level_at, crosses}
use Rattle.strips.specs.Walk.{IsBand}
use Rattle.cell.proofs.Contact.{and_left, and_right}
use Rattle.strips.proofs.Picking.{all_below, all-suc, split}

sub_low : (a b : ℕ) → b ≤ a → sub_ℕ a b ≡ pos (a - b)
sub_low a b h = simp (le-ltb a b h)

sub-high : (a b : ℕ) → a < b → sub_ℕ a b ≡ negsuc (b - suc a)
sub-high a b h = simp (lt-ltb a b h)

on-low : (n : ℕ) → n < coordinate → on n ≡ negsuc (coordinate - suc n)
on-low n h = sym (on-is n (omega arith)) ∙ sub-high n coordinate h

on-high : (n : ℕ) → coordinate ≤ n → n ≤ coordinate + coordinate → on n ≡ pos (n - coordinate)
on-high n h g = sym (on-is n g) ∙ sub_low n coordinate h

leb-same : (a b c d : ℕ) → (a ≤ b → c ≤ d) → (b < a → d < c) → leb a b ≡ leb c d
leb-same a b c d f g =
    ⊎_elim
    (λ (h : b < a). lt-leb a b h ∙ sym (lt-leb c d (g h)))
    (λ (h : a ≤ b). le-leb a b h ∙ sym (le-leb c d (f h)))
    (below? b a)

below-is : (y : ℤ) (lo : ℕ) → lo < coordinate + coordinate → le_z y (on lo) ≡ leb (off y) lo
unfolding off
below-is (pos n) lo h =
    ⊎_elim
    (λ (g : lo < coordinate). rw (on-low lo g) (sym (lt-leb (min (n + coordinate) (coordinate + coordinate)) lo (omega arith))))
    (λ (g : coordinate ≤ lo). rw (on-high lo g (omega arith)) (leb-same n (lo - coordinate) (min (n + coordinate) (coordinate + coordinate)) lo (λ k. omega arith) (λ k. omega arith)))
    (below? lo coordinate)
below-is (negsuc n) lo h =
    ⊎_elim
    (λ (g : lo < coordinate). rw (on-low lo g) (leb-same (coordinate - suc lo) n (coordinate - suc n) lo (λ k. omega arith) (λ k. omega arith)))
    (λ (g : coordinate ≤ lo). rw (on-high lo g (omega arith)) (sym (le-leb (coordinate - suc n) lo (omega arith))))
    (below? lo coordinate)

low_of : (n : ℕ) → in_range (negsuc n) ≡ true → n < coordinate
unfolding in_range
low_of n e = let h = leb-true n (coordinate - 1) (and_left (leb n (coordinate - 1)) true e) in omega arith

high-of : (n : ℕ) → in_range (pos n) ≡ true → n ≤ coordinate
unfolding in_range
high-of n e = leb-true n coordinate (and_right true (leb n coordinate) e)

-- coordinates in range are the same where their offset ones are
off-same : (a b : ℤ) → in_range a ≡ true → in_range b ≡ true → off a ≡ off b → a ≡ b
unfolding off
off-same (pos n) (pos m) e d q = let h = high-of n e in let k = high-of m d in ap pos (omega arith)
off-same (pos n) (negsuc m) e d q = let k = low_of m d in absurd (omega arith)
off-same (negsuc n) (pos m) e d q = let h = low_of n e in absurd (omega arith)
off-same (negsuc n) (negsuc m) e d q = let h = low_of n e in let k = low_of m d in ap negsuc (omega arith)

fits : (a : ℤ) → in_range a ≡ true → FitsSigned w64 a
fits (pos n) e = let h = high-of n e in omega arith
fits (negsuc n) e = let h = low_of n e in omega arith

same-is : (a b : ℤ) → in_range a ≡ true → in_range b ≡ true
    → eqb (of_z w64 a) (of_z w64 b) ≡ eqb (off a) (off b)
same-is a b e d =
    split (eqb (off a) (off b))
    (λ t. rw t (eq-eqb (of_z w64 a) (of_z w64 b) (ap (of_z w64) (off-same a b e d (eqb-true (off a) (off b) t)))))
    (λ t. rw t (ne_eqb (of_z w64 a) (of_z w64 b)
    (λ q. eqb-false (off a) (off b) t (ap off (sym (to_z-of_z (fits a e)) ∙ ap (to_z w64) q ∙ to_z-of_z (fits b d))))))

all-at : (p : ℕ → Bool) (n i : ℕ) → all_below p n ≡ true → i < n → p i ≡ true
all-at p zero i e h = absurd (omega arith)
all-at p (suc n) i e h =
    let f = sym (all-suc p n) ∙ e in
    ⊎_elim
    (λ (g : i < n). all-at p n i (and_left (all_below p n) (p n) f) g)
    (λ (g : n ≤ i). let q : i ≡ n = omega arith in rw q (and_right (all_below p n) (p n) f))
    (below? i n)

point-in : (ps : List (List ℤ)) (i : ℕ) → ring_in_range ps ≡ true → i < length ps → point_in_range ps i ≡ true
unfolding ring_in_range
point-in ps i e h = all-at (point_in_range ps) (length ps) i (and_right (leb (length ps) max_points) (all_below (point_in_range ps) (length ps)) e) h

pub after-inside : (ps : List (List ℤ)) (i : ℕ) → i < length ps → after ps i < length ps
after-inside ps i h =
    ⊎_elim
    (λ (g : i + 1 < length ps). rw (lt-ltb (i + 1) (length ps) g) g)
    (λ (g : length ps ≤ i + 1). rw (le-ltb (i + 1) (length ps) g) (omega arith))
    (below? (i + 1) (length ps))

-- of two heights none of which lies inside a band, one is at its foot or below, and the other above it: they span it
aside : (ya yb lo hi : ℕ) → lo < hi → (ya ≤ lo) ⊎ (hi ≤ ya) → (yb ≤ lo) ⊎ (hi ≤ yb)
    → xor (leb ya lo) (leb yb lo) ≡ ((leb ya lo && leb hi yb) || (leb yb lo && leb hi ya))
unfolding xor
aside ya yb lo hi h a b =
    ⊎_elim
    (λ (p : ya ≤ lo). ⊎_elim
    (λ (q : yb ≤ lo). rw (le-leb ya lo p, le-leb yb lo q, lt-leb hi ya (omega arith), lt-leb hi yb (omega arith)) refl)
    (λ (q : hi ≤ yb). rw (le-leb ya lo p, le-leb hi yb q, lt-leb yb lo (omega arith)) refl)
    b)
    (λ (p : hi ≤ ya). ⊎_elim
    (λ (q : yb ≤ lo). rw (le-leb yb lo q, le-leb hi ya p, lt-leb ya lo (omega arith)) refl)
    (λ (q : hi ≤ yb). rw (lt-leb ya lo (omega arith), lt-leb yb lo (omega arith)) refl)
    b)
    a

-- an edge spans a band by its heights as they are lent
pub spans-is : (ps : List (List ℤ)) (i lo hi : ℕ) → IsBand ps lo hi → i < length ps
    → crosses (on lo) (level_at ps i) (level_at ps (after ps i)) ≡ reaches lo hi (edge_at ps i)
unfolding crosses reaches edge_at y_at
spans-is ps i lo hi b h =
    let t = b.tall in
    let r = b.in_range in
    let l : lo < coordinate + coordinate = omega arith in
    rw (below-is (level_at ps i) lo l, below-is (level_at ps (after ps i)) lo l)
    (aside (y_at ps i) (y_at ps (after ps i)) lo hi t (b.clear i h) (b.clear (after ps i) (after-inside ps i h)))

pub slants-is : (ps : List (List ℤ)) (i : ℕ) → ring_in_range ps ≡ true → i < length ps
    → (not (eqb (of_z w64 (get_or (get_or ps i []) 0 (pos 0))) (of_z w64 (get_or (get_or ps (after ps i) []) 0 (pos 0))))
    && not (eqb (of_z w64 (level_at ps i)) (of_z w64 (level_at ps (after ps i))))) ≡ slants_at ps i
unfolding slants edge_at
slants-is ps i e h =
    let j = after ps i in
    let x0 = get_or (get_or ps i []) 0 (pos 0) in
    let x1 = get_or (get_or ps j []) 0 (pos 0) in
    let a = point-in ps i e h in
    let b = point-in ps j e (after-inside ps i h) in
    ap₂ (λ (t u : Bool). not t && not u)
    (same-is x0 x1 (and_left (in_range x0) (in_range (level_at ps i)) a) (and_left (in_range x1) (in_range (level_at ps j)) b))
    (same-is (level_at ps i) (level_at ps j) (and_right (in_range x0) (in_range (level_at ps i)) a) (and_right (in_range x1) (in_range (level_at ps j)) b))
