-- No point of a ring lies between two neighbouring heights.
use Rattle.std.proofs.Common.{sym, ℕ, suc, ◌+◌, ◌<◌, ◌≡◌, ◌∙◌, ap, List, ◌∷◌, ◌++◌, arith, add-one, ℤ, length, take, drop, get_or, take-append-drop, drop-cons}
use Rattle.strips.specs.Strips.{levels}
use Rattle.strips.specs.Walk.{IsBand}
use Rattle.strips.proofs.Bounds.{level-under}
use Rattle.strips.proofs.Evenness.{level-band}

parted : (l : List ℕ) (k : ℕ) → suc k < length l → l ≡ take k l ++ (get_or l k 0 ∷ get_or l (suc k) 0 ∷ drop (suc (suc k)) l)
parted l k h =
    let a : k < length l = omega arith in
    sym (take-append-drop k l) ∙ ap (λ (t : List ℕ). take k l ++ t) (drop-cons l k 0 a ∙ ap (λ (t : List ℕ). get_or l k 0 ∷ t) (drop-cons l (suc k) 0 h))

-- two neighbouring heights make a band
pub ready-band : (ps : List (List ℤ)) (hs : List ℕ) (k : ℕ) → hs ≡ levels ps → k + 1 < length hs
    → IsBand ps (get_or hs k 0) (get_or hs (k + 1) 0)
ready-band ps hs k e h =
    let band : (l : List ℕ) → l ≡ levels ps → suc k < length l → IsBand ps (get_or l k 0) (get_or l (suc k) 0) =
    λ l q i.
    let b = level-band ps (get_or l k 0) (get_or l (suc k) 0) (take k l) (drop (suc (suc k)) l) (sym q ∙ parted l k i) in
    record { tall = b.0; in_range = rw q (level-under ps (suc k)); clear = b.1 } in
    rw (add-one k) (band hs e (omega arith))
