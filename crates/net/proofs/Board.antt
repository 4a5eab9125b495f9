-- Lists of four to an element, end to end. Assumes nothing.
use Rattle.std.proofs.Common.{◌≡◌, ap, ◌∙◌, List, [], ◌∷◌, ◌++◌, ℕ, zero, suc, ◌+◌, ◌*◌, ◌<◌, arith, length, get_or, length-append, get_or-append-add}
use Rattle.std.specs.Prelude.{flat_map}
use lib.ListN.{get_or-append}

module _ {A B : Type 0} (f : A → List B) (four : (a : A) → length (f a) ≡ 4) where
  pub each-length : (l : List A) → length (flat_map f l) ≡ 4 * length l
  each-length [] = omega arith
  each-length (a ∷ l) = omega (arith, length-append (f a) (flat_map f l), four a, each-length l)

  pub each_at : (l : List A) (t s : ℕ) (d : A) (e : B) → t < length l → s < 4 → get_or (flat_map f l) (4 * t + s) e ≡ get_or (f (get_or l t d)) s e
  each_at [] t s d e h k = absurd (omega arith)
  each_at (a ∷ l) zero s d e h k =
      let z : 4 * 0 + s ≡ s = omega arith in
      ap (λ (i : ℕ). get_or (f a ++ flat_map f l) i e) z ∙ get_or-append (f a) (flat_map f l) e s (omega (arith, four a))
  each_at (a ∷ l) (suc t) s d e h k =
      let z : 4 * suc t + s ≡ length (f a) + (4 * t + s) = omega (arith, four a) in
      ap (λ (i : ℕ). get_or (f a ++ flat_map f l) i e) z ∙ (get_or-append-add (f a) (flat_map f l) (4 * t + s) e ∙ each_at l t s d e (omega arith) k)
