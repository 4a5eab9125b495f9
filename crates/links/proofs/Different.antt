-- How many different elements a list has: as many as are left when it is welded. Neither their order nor how often they come counts. Assumes nothing.
use Rattle.std.proofs.Common.{◌≡◌, refl, sym, ap, ap₂, ◌∙◌, subst, Bool, true, false, cond, ◌&&◌, ◌||◌, ⊎_elim, List, [], ◌∷◌, ◌++◌, append-nil, filter, ℕ, ◌+◌, arith, length, length-append}
use Rattle.std.specs.List.{IsDistinct}
use Rattle.std.specs.Cmp.{IsEquivalence}
use Rattle.std.specs.Set.{is_member}
use Rattle.std.proofs.lemmas.List.Folds.{list_any-append}
use Rattle.std.proofs.lemmas.List.Elements.{filter-append}
use Rattle.std.proofs.lemmas.Map.Keys.{IsDistinct-push}
use Rattle.std.proofs.lemmas.Map.Made.{length-from_same_keys}
use Rattle.net.specs.Net.{has, weld}
use Rattle.net.proofs.Positions.{test}
use Rattle.net.proofs.Keys.{bool-ext}
use Rattle.net.proofs.Weld.{welding, weld-nil, weld-old, weld-new, weld-append}

module _ {A : Type 0} (same : A → A → Bool) where
  pub has-nil : (x : A) → has same [] x ≡ false
  unfolding has
  has-nil x = refl

  pub has-cons : (a : A) (l : List A) (x : A) → has same (a ∷ l) x ≡ (same a x || has same l x)
  unfolding has
  has-cons a l x = refl

  pub has-append : (l m : List A) (x : A) → has same (l ++ m) x ≡ (has same l x || has same m x)
  unfolding has
  has-append l m x = list_any-append (λ a. same a x) l m

  -- how many different elements there are
  unfoldable pub different : List A → ℕ
  different l = length (weld same [] l)

  module _ (self : (a : A) → same a a ≡ true) (exact : (a b : A) → same a b ≡ true → a ≡ b) where
    same-sym : (a b : A) → same a b ≡ same b a
    same-sym a b =
        bool-ext _ _ (λ e. subst (λ (z : A). same z a ≡ true) (exact a b e) (self a)) (λ e. subst (λ (z : A). same z b ≡ true) (exact b a e) (self b))

    equivalence : IsEquivalence same
    equivalence = record { refl = self; symm = same-sym; congr = λ x y z e. ap (λ (w : A). same w z) (exact x y e) }

    member : (l : List A) (x : A) → is_member same l x ≡ has same l x
    unfolding has
    member [] x = refl
    member (a ∷ l) x = ap₂ (λ (u w : Bool). u || w) (same-sym x a) (member l x)

    -- what is welded is what there was
    pub has-weld : (l xs : List A) (x : A) → has same (weld same l xs) x ≡ (has same l x || has same xs x)
    has-weld l [] x = grind (arith, welding, has-nil x)
    has-weld l (a ∷ xs) x = grind (arith, welding, has-cons a xs x, has-append l (a ∷ []) x, has-cons a [] x, has-nil x, has-weld l xs x, has-weld (l ++ (a ∷ [])) xs x, exact a x)

    welded-once : (l xs : List A) → IsDistinct same l → IsDistinct same (weld same l xs)
    welded-once l [] d = subst (IsDistinct same) (sym (weld-nil same l)) d
    welded-once l (a ∷ xs) d =
        ⊎_elim
        (λ e. subst (IsDistinct same) (sym (weld-old same l a xs e)) (welded-once l xs d))
        (λ e. subst (IsDistinct same) (sym (weld-new same l a xs e)) (welded-once (l ++ (a ∷ [])) xs (IsDistinct-push equivalence l a d (member l a ∙ e))))
        (test (has same l a))

    once : (xs : List A) → IsDistinct same (weld same [] xs)
    once xs = welded-once [] xs (unfold IsDistinct in tt)

    -- two lists of the same elements
    pub different-same : (xs ys : List A) → ((x : A) → has same xs x ≡ has same ys x) → different xs ≡ different ys
    unfolding different
    different-same xs ys h =
        length-from_same_keys equivalence (weld same [] xs) (weld same [] ys) (once xs) (once ys)
        (λ x. member (weld same [] xs) x ∙ (has-weld [] xs x ∙ (ap (λ (b : Bool). has same [] x || b) (h x) ∙ sym (member (weld same [] ys) x ∙ has-weld [] ys x))))

    -- one more
    pub different-more : (l : List A) (x : A) → different (l ++ (x ∷ [])) ≡ different l + cond (has same l x) 0 1
    unfolding different
    different-more l x =
        grind (arith, welding, weld-append same [] l (x ∷ []), has-weld [] l x, has-nil x, weld-nil same (weld same [] l), weld-old same (weld same [] l) x [], weld-new same (weld same [] l) x [], weld-nil same (weld same [] l ++ (x ∷ [])), length-append (weld same [] l) (x ∷ []))

    -- those that pass a test
    pub has-filter : (p : A → Bool) (l : List A) (x : A) → has same (filter p l) x ≡ (p x && has same l x)
    has-filter p [] x = grind (arith, has-nil x)
    has-filter p (a ∷ l) x = grind (arith, has-cons a l x, has-cons a (filter p l) x, has-filter p l x, exact a x)

    pub weld-filter : (p : A → Bool) (l xs : List A) → filter p (weld same l xs) ≡ weld same (filter p l) (filter p xs)
    weld-filter p l [] = grind (arith, welding)
    weld-filter p l (x ∷ xs) =
        grind (arith, welding, weld-filter p l xs, weld-filter p (l ++ (x ∷ [])) xs, filter-append p l (x ∷ []), has-filter p l x, append-nil (filter p l))
