-- Rows written behind what stands in them already. Assumes nothing.
use Rattle.std.proofs.Common.{◌≡◌, ℕ, ◌+◌, ◌-◌, ◌<◌, ◌≤◌, List, [], ◌∷◌, ◌++◌, length, get_or, take, drop, flat_map, refl, sym, ap, ap₂, ◌∙◌, append_assoc, length-append, length-drop, arith}
use borrow.Rule.Slice.PartMut.{put_mid}
use Rattle.std.proofs.lemmas.List.{append-nil, take_at, drop_at, drop-drop, drop_all, take_all, take_more}
use Rattle.std.proofs.lemmas.List.Concat.{flat_map-append}
use Rattle.std.proofs.lemmas.List.Folds.{length-flat_map-take}
use Rattle.refusals.specs.Said.{written}

module _ {A : Type 0} where
  pub written-long : (xs old : List A) → length xs ≤ length old → length (written xs old) ≡ length old
  written-long xs old h = length-append xs (drop (length xs) old) ∙ omega (arith, length-drop (length xs) old)

  -- the part of a row behind its first n
  abbrev pub rest : ℕ → List A → List A
  rest n row = take (length row - n) (drop n row)

  rest-is : (n : ℕ) (row : List A) → rest n row ≡ drop n row
  rest-is n row = take_all (length row - n) (drop n row) (let e = length-drop n row in omega arith)

  pub rest-long : (n : ℕ) (row : List A) → length (rest n row) ≡ length row - n
  rest-long n row = ap length (rest-is n row) ∙ length-drop n row

  rest-written : (xs old : List A) (n : ℕ) → n ≡ length xs → rest n (written xs old) ≡ drop n old
  rest-written xs old n e = rest-is n (written xs old) ∙ (drop_at xs (drop (length xs) old) n (sym e) ∙ ap (λ (k : ℕ). drop k old) (sym e))

  pub put-behind : (xs ys old row part : List A) (n : ℕ) → row ≡ written xs old → n ≡ length xs → part ≡ written ys (rest n row) → put_mid n (length row - n) row part ≡ written (xs ++ ys) old
  put-behind xs ys old row part n r e p =
      let gone = ap (drop (length row - n)) (sym (rest-is n row)) ∙ drop_all (length row - n) (rest n row) (let l = rest-long n row in omega arith) in
      let front = ap (take n) r ∙ take_at xs (drop (length xs) old) n (sym e) in
      let behind = p ∙ ap (λ (z : List A). ys ++ drop (length ys) z) (ap (rest n) r ∙ rest-written xs old n e) in
      let last = drop-drop (length ys) n old ∙ ap (λ (k : ℕ). drop k old) (let l = length-append xs ys in let q : n + length ys ≡ length (xs ++ ys) = omega arith in q) in
      ap₂ {C = List A} (λ (a b : List A). a ++ b) front (ap₂ {C = List A} (λ (a b : List A). a ++ b) behind gone ∙ append-nil (ys ++ drop (length ys) (drop n old)))
      ∙ (sym (append_assoc xs ys (drop (length ys) (drop n old))) ∙ ap (λ (z : List A). (xs ++ ys) ++ z) last)

-- ---- two parts, one behind the other
module _ {A : Type 0} (xs ys old : List A) (room : length (xs ++ ys) ≤ length old) where
  pub first-room : length xs ≤ length old
  first-room = let l = length-append xs ys in omega arith

  module _ (row : List A) (n : ℕ) (r : row ≡ written xs old) (e : n ≡ length xs) where
    pub second-room : length ys ≤ length (rest n row)
    second-room =
        let l = length-append xs ys in
        let a = rest-long n row in
        let b = ap length r ∙ written-long xs old first-room in
        omega arith

    pub both : (part : List A) (m : ℕ) → part ≡ written ys (rest n row) → m ≡ length ys → (n + m ≡ length (xs ++ ys)) × (put_mid n (length row - n) row part ≡ written (xs ++ ys) old)
    both part m p q = (let l = length-append xs ys in omega arith, put-behind xs ys old row part n r e p)

-- ---- what f makes of a list, one by one
-- what f makes of the first k of a list stands in front of a row: so many
pub record Stands {X A : Type 0} (f : X → List A) (xs : List X) (old row : List A) (count k : ℕ) : Type 0 where
  pub count-is : count ≡ length (flat_map f (take k xs))
  pub row-is : row ≡ written (flat_map f (take k xs)) old

module _ {X A : Type 0} (f : X → List A) (xs : List X) (old : List A) where
  pub stands-none : Stands f xs old old 0 0
  stands-none = record { count-is = refl; row-is = refl }

  pub stands-all : (row : List A) (count k : ℕ) → length xs ≤ k → Stands f xs old row count k → (count ≡ length (flat_map f xs)) × (row ≡ written (flat_map f xs) old)
  stands-all row count k h s =
      let e = ap (flat_map f) (take_all k xs h) in
      (s.count-is ∙ ap length e, s.row-is ∙ ap (λ (z : List A). written z old) e)

  module _ (room : length (flat_map f xs) ≤ length old) (row : List A) (count k : ℕ) (d : X) (h : k < length xs) (s : Stands f xs old row count k) where
    pub next-fits : count + length (f (get_or xs k d)) ≤ length row
    next-fits =
        let more = length-flat_map-take f xs k d h in
        let e = s.count-is in
        let l = ap length s.row-is ∙ written-long (flat_map f (take k xs)) old (omega arith) in
        omega arith

    pub next-room : length (f (get_or xs k d)) ≤ length (rest count row)
    next-room = let l = rest-long count row in let n = next-fits in omega arith

    made : flat_map f (take (k + 1) xs) ≡ flat_map f (take k xs) ++ f (get_or xs k d)
    made = ap (flat_map f) (take_more xs k d h) ∙ (flat_map-append f (take k xs) (get_or xs k d ∷ []) ∙ ap (λ (z : List A). flat_map f (take k xs) ++ z) (append-nil (f (get_or xs k d))))

    pub next-stands : (part : List A) (n : ℕ) → part ≡ written (f (get_or xs k d)) (rest count row) → n ≡ length (f (get_or xs k d)) → Stands f xs old (put_mid count (length row - count) row part) (count + n) (k + 1)
    next-stands part n p e =
        let c = s.count-is in
        let l = length-append (flat_map f (take k xs)) (f (get_or xs k d)) in
        let m = ap length made in
        record {
          count-is = omega arith;
          row-is = put-behind (flat_map f (take k xs)) (f (get_or xs k d)) old row part count s.row-is s.count-is p ∙ ap (λ (z : List A). written z old) (sym made);
        }
