-- One axis: ranges that overlap, their ends, halves and multiples. Assumes nothing.
use Rattle.std.proofs.Common.{◌≡◌, sym, ap, subst, ◌∙◌, ℕ, suc, ◌+◌, ◌*◌, ◌-◌, ◌/◌, ◌%◌, ◌^◌, ◌<◌, ◌≤◌, arith, mul-suc, mul_assoc, pow-suc, pow-add}
use native.Mathlib.Nat.{lt_of_mul-lt-mul_left, mul-sub, div-add-mod, add-mul-mod_self_left, mod-mod_of_dvd, dvd-mul_right}
use Rattle.cell.specs.Boxes.{mid}
use Rattle.laws.specs.Nodes.{End, lower, upper}
use Rattle.laws.specs.Fit.{Meet}

-- a range with an end strictly inside another overlaps it
pub meet-along : (a b c d x : ℕ) → a < x → x < b → c < d → End c d x → Meet a b c d
meet-along a b c d x l h p e = grind arith

-- two ranges with an end in common overlap, or one begins where the other ends
pub data Across (a b c d : ℕ) : Type 0 where
  same : Meet a b c d → Across a b c d
  above : b ≡ c → Across a b c d
  below : d ≡ a → Across a b c d

pub meet-across : (a b c d y : ℕ) → a < b → c < d → End a b y → End c d y → Across a b c d
meet-across a b c d y p q e f = grind arith

-- from a to b it is one step of the length u on the line that starts at o
abbrev pub Spot : ℕ → ℕ → ℕ → ℕ → Type 0
Spot o u a b = (i : ℕ) × (a ≡ o + u * i) × (b ≡ a + u)

pub cut : (o u a b : ℕ) → Spot o (u * 2) a b → Spot o u a (mid a b) × Spot o u (mid a b) b
cut o u a b s =
    let e = s.1 in
    let f = s.2 in
    let m : u * 2 * s.0 ≡ u * (2 * s.0) = mul_assoc u 2 s.0 in
    let n : u * suc (2 * s.0) ≡ u * (2 * s.0) + u = mul-suc u (2 * s.0) in
    ((2 * s.0, omega arith, omega arith), (suc (2 * s.0), omega arith, omega arith))

-- an end of a step is a multiple
on_line : (o u a b x : ℕ) → Spot o u a b → End a b x → (j : ℕ) × (x ≡ o + u * j)
on_line o u a b x s (lower e) = let f = s.1 in (s.0, omega arith)
on_line o u a b x s (upper e) = let f = s.1 in let g = s.2 in let n : u * suc s.0 ≡ u * s.0 + u = mul-suc u s.0 in (suc s.0, omega arith)

-- what lies strictly inside a step of two units, and is a multiple of the unit, is its middle
inner : (o u a b x j : ℕ) → Spot o (u * 2) a b → x ≡ o + u * j → a < x → x < b → x ≡ mid a b
inner o u a b x j s e l h =
    let f = s.1 in
    let g = s.2 in
    let m : u * 2 * s.0 ≡ u * (2 * s.0) = mul_assoc u 2 s.0 in
    let n : u * suc (2 * s.0) ≡ u * (2 * s.0) + u = mul-suc u (2 * s.0) in
    let k : u * suc (suc (2 * s.0)) ≡ u * suc (2 * s.0) + u = mul-suc u (suc (2 * s.0)) in
    let p : 2 * s.0 < j = lt_of_mul-lt-mul_left u (omega arith) in
    let q : j < suc (suc (2 * s.0)) = lt_of_mul-lt-mul_left u (omega arith) in
    let r : u * j ≡ u * suc (2 * s.0) = ap (λ (z : ℕ). u * z) (omega arith) in
    omega arith

-- the unit of level l, where the finest level is M: w * 2 ^ (M + 1 - l)
abbrev pub unit : ℕ → ℕ → ℕ → ℕ
unit M w l = w * 2 ^ (M + 1 - l)

pub unit-half : (M w l : ℕ) → l ≤ M → unit M w l ≡ unit M w (suc l) * 2
unit-half M w l h =
    let e : M + 1 - l ≡ suc (M + 1 - suc l) = omega arith in
    ap (λ (z : ℕ). w * 2 ^ z) e ∙ ap (λ (z : ℕ). w * z) (pow-suc 2 (M + 1 - suc l)) ∙ sym (mul_assoc w (2 ^ (M + 1 - suc l)) 2)

-- a coarser unit is a multiple of a finer one
unit-times : (M w k l : ℕ) → l ≤ k → k ≤ M + 1 → unit M w l ≡ unit M w k * 2 ^ (k - l)
unit-times M w k l h m =
    let e : M + 1 - l ≡ (M + 1 - k) + (k - l) = omega arith in
    ap (λ (z : ℕ). w * 2 ^ z) e ∙ ap (λ (z : ℕ). w * z) (pow-add 2 (M + 1 - k) (k - l)) ∙ sym (mul_assoc w (2 ^ (M + 1 - k)) (2 ^ (k - l)))

-- an end of a step is a multiple of every finer unit
on-finer : (o M w k l c d x : ℕ) → l ≤ k → k ≤ M + 1 → Spot o (unit M w l) c d → End c d x → (j : ℕ) × (x ≡ o + unit M w k * j)
on-finer o M w k l c d x h m t e =
    let j = on_line o (unit M w l) c d x t e in
    let f = ap (λ (z : ℕ). z * j.0) (unit-times M w k l h m) ∙ mul_assoc (unit M w k) (2 ^ (k - l)) j.0 in
    (2 ^ (k - l) * j.0, j.1 ∙ ap (λ (z : ℕ). o + z) f)

-- numbers with one remainder are a multiple apart
apart-by : (u o x : ℕ) → o % u ≡ x % u → o ≤ x → (j : ℕ) × (x ≡ o + u * j)
apart-by u o x e l =
    let a = div-add-mod o u in
    let b = div-add-mod x u in
    (x / u - o / u, omega (arith, mul-sub u (x / u) (o / u)))

pub finer-mod : (M w k l o v : ℕ) → l ≤ k → k ≤ M + 1 → o % unit M w l ≡ v % unit M w l → o % unit M w k ≡ v % unit M w k
finer-mod M w k l o v h m e =
    let u = unit M w k in
    let d = subst (λ (z : ℕ). (n : ℕ) → n % z % u ≡ n % u) (sym (unit-times M w k l h m)) (λ n. mod-mod_of_dvd u n (dvd-mul_right u (2 ^ (k - l)))) in
    sym (d o) ∙ ap (λ (z : ℕ). z % u) e ∙ d v

-- the ranges are w units of level 0 long, and begin a multiple of the unit of level d apart
pub record Alike (M d a b c e : ℕ) : Type 0 where
  pub w : ℕ
  pub one : b ≡ a + unit M w 0
  pub two : e ≡ c + unit M w 0
  pub apart : a % unit M w d ≡ c % unit M w d

pub alike-back : (M d a b c e : ℕ) → Alike M d a b c e → Alike M d c e a b
alike-back M d a b c e r = record { w = r.w; one = r.two; two = r.one; apart = sym r.apart }

-- behind o, an end of a step of level l from v is a multiple of the unit of level k + d from o, where l is at most k + d
pub shared : (M d k l o v w c e x : ℕ) → k + d ≤ M + 1 → l ≤ k + d → o % unit M w d ≡ v % unit M w d → Spot v (unit M w l) c e → End c e x
    → o ≤ x → (j : ℕ) × (x ≡ o + unit M w (k + d) * j)
shared M d k l o v w c e x m h r t f q =
    let u = unit M w (k + d) in
    let j = on-finer v M w (k + d) l c e x h m t f in
    let s = finer-mod M w (k + d) d o v (omega arith) m r in
    apart-by u o x (s ∙ sym (add-mul-mod_self_left v u j.0) ∙ ap (λ (z : ℕ). z % u) (sym j.1)) q

-- strictly inside a step of level k, what is a multiple of the next unit is the middle
pub inside-one : (M w k o a b x j : ℕ) → k ≤ M → Spot o (unit M w k) a b → x ≡ o + unit M w (k + 1) * j → a < x → x < b → x ≡ mid a b
inside-one M w k o a b x j h s e = inner o (unit M w (suc k)) a b x j (subst (λ (u : ℕ). Spot o u a b) (unit-half M w k h) s) (e ∙ ap (λ (z : ℕ). o + unit M w z * j) (omega arith))

-- and no multiple of its own unit is there
pub inside-none : (M w k o a b x j : ℕ) → Spot o (unit M w k) a b → x ≡ o + unit M w (k + 0) * j → a < x → x < b → ⊥
inside-none M w k o a b x j s i p q =
    let f = s.1 in
    let g = s.2 in
    let e : x ≡ o + unit M w k * j = i ∙ ap (λ (z : ℕ). o + unit M w z * j) (omega arith) in
    let n : unit M w k * suc s.0 ≡ unit M w k * s.0 + unit M w k = mul-suc (unit M w k) s.0 in
    let y : s.0 < j = lt_of_mul-lt-mul_left (unit M w k) (omega arith) in
    let z : j < suc s.0 = lt_of_mul-lt-mul_left (unit M w k) (omega arith) in
    omega arith

-- two steps of one length that overlap are the same one
pub same_step : (o u i j : ℕ) → Meet (o + u * i) (o + u * (i + 1)) (o + u * j) (o + u * (j + 1)) → i ≡ j
same_step o u i j m =
    let p : i < j + 1 = lt_of_mul-lt-mul_left u (omega arith) in
    let q : j < i + 1 = lt_of_mul-lt-mul_left u (omega arith) in
    omega arith
