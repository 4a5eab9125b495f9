-- Bytes stored in a row, one part behind the other.
use Rattle.std.proofs.Common.{ℕ, zero, suc, ◌+◌, ◌-◌, ◌/◌, ◌%◌, ◌^◌, ◌≤◌, ◌<◌, ◌≡◌, refl, sym, ap, ◌∙◌, List, [], ◌∷◌, ◌++◌, arith, length, set, add-zero, add-suc, suc-add}
use Rattle.std.proofs.Math.Nat.{div-div-eq-div-mul, pow-succ'}
use lib.Seq.{sets, set_comm}
use Rattle.std.specs.Int.{bytes_high_first, byte_at}

-- one list behind another
pub sets_append : {A : Type 0} (row : List A) (at : ℕ) (xs ys : List A) → sets row at (xs ++ ys) ≡ sets (sets row at xs) (at + length xs) ys
sets_append row at [] ys = rw (add-zero at) refl
sets_append row at (x ∷ xs) ys =
    sets_append (set row at x) (suc at) xs ys ∙ ap (λ k. sets (sets (set row at x) (suc at) xs) k ys) (suc-add at (length xs) ∙ sym (add-suc at (length xs)))

-- two parts put one after the other
pub sets_then : {A : Type 0} {o m : List A} (l : List A) (at next : ℕ) (p r : List A) → next ≡ at + length p → m ≡ sets l at p → o ≡ sets m next r → o ≡ sets l at (p ++ r)
sets_then l at next p r e f g = g ∙ ap (λ x. sets x next r) f ∙ ap (λ n. sets (sets l at p) n r) e ∙ sym (sets_append l at p r)

-- ---- a number's bytes

pub bytes-length : (k v : ℕ) → length (bytes_high_first k v) ≡ k
bytes-length zero v = refl
bytes-length (suc k) v = ap suc (bytes-length k v)

-- a number and then others
pub bytes_then : (l : List ℕ) (at k v : ℕ) (r : List ℕ) → sets l at (bytes_high_first k v ++ r) ≡ sets (sets l at (bytes_high_first k v)) (at + k) r
bytes_then l at k v r = sym (sets_then l at (at + k) (bytes_high_first k v) r (omega (arith, bytes-length k v)) refl refl)

-- a byte of what is above the lowest byte
byte_above : (k v : ℕ) → byte_at (suc k) v ≡ byte_at k (v / 256)
byte_above zero v = refl
byte_above (suc k) v =
    ap (λ (n : ℕ). v / n % 256) (pow-succ' 256 (suc k)) ∙ ap (λ (n : ℕ). n % 256) (sym (div-div-eq-div-mul v 256 (256 ^ suc k)))

-- the lowest byte comes last
bytes_last : (k v : ℕ) → bytes_high_first (suc k) v ≡ bytes_high_first k (v / 256) ++ (v % 256 ∷ [])
bytes_last zero v = refl
bytes_last (suc k) v = ap (λ (b : ℕ). b ∷ bytes_high_first (suc k) v) (byte_above k v) ∙ ap (λ (l : List ℕ). byte_at k (v / 256) ∷ l) (bytes_last k v)

-- a store behind a run of stores may come first
set-behind : {A : Type 0} (l : List A) (i j : ℕ) (xs : List A) (b : A) → i + length xs ≤ j → sets (set l j b) i xs ≡ set (sets l i xs) j b
set-behind l i j [] b h = refl
set-behind l i j (x ∷ xs) b h =
    ap (λ m. sets m (suc i) xs) (set_comm l j i b x (λ e. omega arith)) ∙ set-behind (set l i x) (suc i) j xs b (omega arith)

-- the last byte of a number, then the others
pub bytes_turn : (out : List ℕ) (at i v : ℕ) → 0 < i → sets out at (bytes_high_first i v) ≡ sets (set out (at + (i - 1)) (v % 256)) at (bytes_high_first (i - 1) (v / 256))
bytes_turn out at zero v h = absurd (omega arith)
bytes_turn out at (suc k) v h =
    let e : suc k - 1 ≡ k = omega arith in
    let l = bytes-length k (v / 256) in
    rw (e, bytes_last k v)
    (sets_append out at (bytes_high_first k (v / 256)) (v % 256 ∷ []) ∙ ap (λ n. set (sets out at (bytes_high_first k (v / 256))) (at + n) (v % 256)) l
    ∙ sym (set-behind out at (at + k) (bytes_high_first k (v / 256)) (v % 256) (omega arith)))

pub bytes_none : (out : List ℕ) (at i v : ℕ) → i ≤ 0 → sets out at (bytes_high_first i v) ≡ out
bytes_none out at zero v h = refl
bytes_none out at (suc i) v h = absurd (omega arith)
