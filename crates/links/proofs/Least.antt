-- The nearest of the candidates is the first of those at the least rounded distance. Assumes nothing.
use Rattle.std.proofs.Common.{◌≡◌, refl, ◌∙◌, subst, Bool, true, false, cond, T, List, [], ◌∷◌, ◌++◌, append_assoc, append-nil, ℕ, ◌≤◌, arith, length, length-append, take, ℤ, Float}
use Rattle.std.specs.Prelude.{fold, nat_abs, ◌-ℤ◌}
use Rattle.std.specs.Float.{◌<ᶠ◌, ◌≤ᶠ◌, NotNan}
use Rattle.std.specs.Float.Ieee as Ieee
use lib.Ieee.{nan, inf, fin, binary64, is_nan, of_int}
use Rattle.std.proofs.lemmas.Float as F
use Rattle.std.proofs.lemmas.List.{take-append-le, get_or_append_left}
use Rattle.std.proofs.Math.Seq.{take-append_seam, get_or-append_seam}
use Rattle.std.proofs.lemmas.List.Elements.{All-nil, All-push, All-weaker, All-same}
use Rattle.floats.specs.Fractions.{float, nonneg}
use Rattle.floats.proofs.Signs.{round-no-nan, square-nonneg, add-nonneg}
use Rattle.net_rows.specs.declared.rows.Node.{Node}
use Rattle.net_rows.specs.Nets.{nth_node}
use Rattle.links.specs.Made.{square, distance, lead, nearest}
use Rattle.links.specs.Laws.{IsNearest, NearestIsTheFirstOfTheLeast}

-- ---- a distance is a number

nonneg-number : (x : Float) → T (nonneg x) → NotNan x
unfolding is_nan
nonneg-number nan p = absurd p
nonneg-number (inf s) p = tt
nonneg-number (fin s m e) p = tt

square-nonnegative : (n : ℕ) → T (nonneg (square (float n)))
unfolding of_int
square-nonnegative n = square-nonneg binary64 (float n) (round-no-nan binary64 false n 1)

distance-number : (x y : ℤ) (n : Node) → NotNan (distance x y n)
distance-number x y n =
    let across = nat_abs (n.x -ℤ x) in
    let upright = nat_abs (n.y -ℤ y) in
    nonneg-number (distance x y n)
    (add-nonneg binary64 (square (float across)) (square (float upright)) (square-nonnegative across) (square-nonnegative upright))

-- ---- the walk

module _ (nodes : List Node) (x y : ℤ) where
  abbrev far : ℕ → Float
  far i = distance x y (nth_node nodes i)

  number : (i : ℕ) → NotNan (far i)
  number i = distance-number x y (nth_node nodes i)

  abbrev Is : List ℕ → ℕ → Type 0
  Is = IsNearest nodes x y

  -- one candidate more: it is nearer, or the one so far stays
  one-more : (seen : List ℕ) (best i : ℕ) → Is seen best → Is (seen ++ (i ∷ [])) (lead nodes x y best i)
  one-more seen best i h = by (Ieee.lt (far i) (far best)) refl
    where
      by : (b : Bool) → Ieee.lt (far i) (far best) ≡ b → Is (seen ++ (i ∷ [])) (cond b i best)
      by true e =
          let nearer = F.T_from_true _ e in
          let less : (j : ℕ) → far best ≤ᶠ far j → far i <ᶠ far j = λ j k. F.lt_of_lt_of_le (far i) (far best) (far j) nearer k in
          let all-less = All-weaker (λ j. far best ≤ᶠ far j) (λ j. far i <ᶠ far j) less seen h.least in
          record {
            place = length seen;
            among = omega (arith, length-append seen (i ∷ []));
            found = get_or-append_seam seen i [] i;
            least = All-push (λ j. far i ≤ᶠ far j) seen i (All-weaker (λ j. far i <ᶠ far j) (λ j. far i ≤ᶠ far j) (λ j k. F.le_of_lt (far i) (far j) k) seen all-less) (F.le_refl (far i) (number i));
            first = All-same (λ j. far i <ᶠ far j) _ seen (take-append_seam seen (i ∷ [])) all-less;
          }
      by false e =
          let there : h.place ≤ length seen = omega (arith, h.among) in
          record {
            place = h.place;
            among = omega (arith, h.among, length-append seen (i ∷ []));
            found = get_or_append_left seen (i ∷ []) best h.place h.among ∙ h.found;
            least = All-push (λ j. far best ≤ᶠ far j) seen i h.least (F.le_of_not-lt (far i) (far best) (number i) (number best) (F.T_from_false _ e));
            first = All-same (λ j. far best <ᶠ far j) _ (take h.place seen) (take-append-le h.place seen (i ∷ []) there) h.first;
          }

  walk : (seen rest : List ℕ) (best : ℕ) → Is seen best → Is (seen ++ rest) (fold (lead nodes x y) best rest)
  walk seen [] best h = rw append-nil h
  walk seen (i ∷ rest) best h =
      subst (λ (is : List ℕ). Is is (fold (lead nodes x y) (lead nodes x y best i) rest)) (append_assoc seen (i ∷ []) rest)
      (walk (seen ++ (i ∷ [])) rest (lead nodes x y best i) (one-more seen best i h))

  alone : (i : ℕ) → Is (i ∷ []) i
  alone i = record {
    place = 0;
    among = omega arith;
    found = refl;
    least = All-push (λ j. far i ≤ᶠ far j) [] i (All-nil (λ j. far i ≤ᶠ far j)) (F.le_refl (far i) (number i));
    first = All-nil (λ j. far i <ᶠ far j);
  }

pub nearest_first : NearestIsTheFirstOfTheLeast
unfolding nearest
nearest_first nodes x y [] = refl
nearest_first nodes x y (i ∷ is) = walk nodes x y (i ∷ []) is i (alone nodes x y i)
