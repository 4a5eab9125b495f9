-- The walk over a ring's bands: what each step of the code leaves to come. Assumes nothing.
use Rattle.std.proofs.Common.{ℕ, suc, ◌+◌, ◌/◌, ◌<◌, ◌≤◌, ◌≡◌, refl, sym, ap, ◌∙◌, true, false, List, [], ◌∷◌, ◌++◌, arith, add-one, ℤ, ltb, length, take, drop, get_or, length-drop, length-append, drop-cons, take_at, lt-ltb, le-ltb}
use Rattle.refusals.specs.Limits.{max_points}
use Rattle.strips.specs.Strips.{pair_up}
use Rattle.strips.specs.Walk.{crossed, in_band, walked, left, all_of, start_band, IsNextPair, vertical_at, key_of, unsorted_edges, Gathered}
use Rattle.strips.specs.Sorted.{sorted}
use Rattle.strips.proofs.Orders.{length-sorted}
use Rattle.strips.proofs.Picking.{split, more_yes, more_no}

module _ (ps : List (List ℤ)) (es : List ℕ) where
  pub left-zero : (hs : List ℕ) → left ps es 0 hs ≡ walked ps es hs
  unfolding left walked
  left-zero [] = refl
  left-zero (lo ∷ []) = refl
  left-zero (lo ∷ hi ∷ hs) = refl

  left-short : (j : ℕ) (hs : List ℕ) → length hs ≤ 1 → left ps es j hs ≡ []
  unfolding left
  left-short j [] h = refl
  left-short j (lo ∷ []) h = refl
  left-short j (lo ∷ hi ∷ hs) h = absurd (omega arith)

  pub left_end : (hs : List ℕ) (j k : ℕ) → length hs ≤ k + 1 → left ps es j (drop k hs) ≡ []
  left_end hs j k h = left-short j (drop k hs) (simp length-drop (omega arith))

  pub started : (hs : List ℕ) → left ps es 0 (drop (start_band ps hs) hs) ≡ all_of ps hs es
  unfolding all_of
  started hs =
      split (ltb (length ps) 3)
      (λ e. rw e (left_end hs 0 (length hs) (omega arith)))
      (λ e. rw e (left-zero hs))

  left_at : (hs : List ℕ) (j k : ℕ) → k + 1 < length hs → left ps es j (drop k hs) ≡ pair_up (get_or hs k 0) (get_or hs (k + 1) 0) (crossed ps (get_or hs k 0) (get_or hs (k + 1) 0) (drop j es)) ++ walked ps es (drop (k + 1) hs)
  unfolding left
  left_at hs j k h =
      let a : k < length hs = omega arith in
      let b : suc k < length hs = omega arith in
      rw (add-one k, drop-cons hs k 0 a, drop-cons hs (suc k) 0 b) refl

  -- the same of the band k, and of those above it
  module _ (hs : List ℕ) (j k a b : ℕ) (h : k + 1 < length hs) (f : IsNextPair ps (get_or hs k 0) (get_or hs (k + 1) 0) es j a b) where
    pub left-strip : get_or es a 0 / max_points < get_or es b 0 / max_points → left ps es j (drop k hs) ≡ record { x0 = get_or es a 0 / max_points; y0 = get_or hs k 0; x1 = get_or es b 0 / max_points; y1 = get_or hs (k + 1) 0 } ∷ left ps es (b + 1) (drop k hs)
    unfolding pair_up
    left-strip w = rw (left_at hs j k h, left_at hs (b + 1) k h, f.same, lt-ltb _ _ w) refl

    pub left-thin : get_or es b 0 / max_points ≤ get_or es a 0 / max_points → left ps es j (drop k hs) ≡ left ps es (b + 1) (drop k hs)
    unfolding pair_up
    left-thin w = rw (left_at hs j k h, left_at hs (b + 1) k h, f.same, le-ltb _ _ w) refl

  pub left-on : (hs : List ℕ) (j k : ℕ) → k + 1 < length hs → in_band ps (get_or hs k 0) (get_or hs (k + 1) 0) (drop j es) ≡ [] → left ps es j (drop k hs) ≡ left ps es 0 (drop (k + 1) hs)
  left-on hs j k h e = left_at hs j k h ∙ rw (e, left-zero (drop (k + 1) hs)) refl

pub unsorted-yes : (ps : List (List ℤ)) (i : ℕ) → vertical_at ps i ≡ true → unsorted_edges ps (i + 1) ≡ unsorted_edges ps i ++ (key_of ps i ∷ [])
unfolding unsorted_edges
unsorted-yes ps i e = more_yes (vertical_at ps) (key_of ps) i e

pub unsorted-no : (ps : List (List ℤ)) (i : ℕ) → vertical_at ps i ≡ false → unsorted_edges ps (i + 1) ≡ unsorted_edges ps i
unfolding unsorted_edges
unsorted-no ps i e = more_no (vertical_at ps) (key_of ps) i e

-- the front of a row put in order
pub resorted : (row l part : List ℕ) (n : ℕ) → Gathered l row n → part ≡ sorted (take n row) → Gathered (sorted l) (part ++ drop n row) n
resorted row l part n g p =
    let q : part ≡ sorted l = p ∙ ap sorted g.front in
    let m : length part ≡ n = ap length q ∙ length-sorted l ∙ sym g.count in
    record {
      front = take_at part (drop n row) n m ∙ q;
      count = g.count ∙ sym (length-sorted l);
      fits = simp (length-append) (omega arith);
    }
