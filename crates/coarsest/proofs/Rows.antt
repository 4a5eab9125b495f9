-- A row by what is due at its start, in any way of finding it: an engine need not ask every pair. Assumes nothing.
use Rattle.std.proofs.Common.{◌≡◌, refl, sym, ap, ◌∙◌, Bool, true, false, ◌||◌, List, ℕ, zero, suc, ◌+◌, ◌<◌, ◌≤◌, arith, length}
use Rattle.std.proofs.Math.Bool.{or_assoc, or-false}
use Rattle.std.specs.List.{list_any, range_with_len}
use Rattle.table.specs.Mesh.{Cell, at}
use Rattle.table.specs.Formed.{Formed}
use Rattle.coarsest.specs.declared.Engine.{Engine}
use Rattle.coarsest.specs.declared.Engine.TheVariants.{Balancing, Conforming}
use Rattle.coarsest.specs.Passes.{is_due, due, split_if, step, with_each}
use Rattle.coarsest.specs.Sweep.{row}
use Rattle.coarsest.proofs.Least.{due-of, level-most}
use Rattle.coarsest.proofs.Sweep.{row-next}
use Rattle.coarsest.proofs.Loops.{row-skip, no-leaf, split-no-leaf}

-- ---- rows with nothing due

pub row-none : (e : Engine) (k : ℕ) (t : List Cell) (a n : ℕ) → ((b : ℕ) → b < n → is_due e k t a b ≡ false) → row e k t a n ≡ t
unfolding row with_each
row-none e k t a zero h = refl
row-none e k t a (suc n) h =
    let r = row-none e k t a n (λ b l. h b (omega arith)) in
    row-skip e k t a n (ap (λ (u : List Cell). is_due e k u a n) r ∙ h n (omega arith)) ∙ r

pub not-due : (k : ℕ) (t : List Cell) (f c : ℕ) → (at t f).level ≤ (at t c).level + k → due k t f c ≡ false
not-due k t f c h = go (due k t f c) refl
  where
    go : (d : Bool) → due k t f c ≡ d → due k t f c ≡ false
    go true e = let a = (due-of k t f c e).apart in absurd (omega arith)
    go false e = e

-- a cell of level k or above it is finer than none by more than k
pub row-shallow : (k : ℕ) (t : List Cell) (a n : ℕ) → (at t a).level ≤ k → row Balancing k t a n ≡ t
row-shallow k t a n h = row-none Balancing k t a n (λ b l. not-due k t a b (omega arith))

-- no cell is finer by more than k than one of the last k + 1 levels
pub row-finest : (k M : ℕ) (t : List Cell) (a n : ℕ) → Formed M t → n ≤ length t → M ≤ (at t a).level + k → row Conforming k t a n ≡ t
row-finest k M t a n formed l h =
    row-none Conforming k t a n (λ b m. not-due k t b a (let d = level-most M t formed b (omega arith) in omega arith))

-- ---- a conforming row

any_last : (f : ℕ → Bool) (a n j : ℕ) → a + n ≡ j → list_any f (range_with_len a (suc n)) ≡ (list_any f (range_with_len a n) || f j)
any_last f a zero j e = let same : a ≡ j = omega arith in or-false (f a) ∙ ap f same
any_last f a (suc n) j e = ap (λ (b : Bool). f a || b) (any_last f (a + 1) n j (omega arith)) ∙ sym (or_assoc (f a) _ (f j))

pub conform-row : (k : ℕ) (t : List Cell) (a : ℕ) → a < length t → (n : ℕ)
    → row Conforming k t a n ≡ split_if (list_any (λ b. due k t b a) (range_with_len 0 n)) t a
unfolding row with_each step
conform-row k t a ha zero = refl
conform-row k t a ha (suc n) =
    go (list_any (λ b. due k t b a) (range_with_len 0 n)) (conform-row k t a ha n)
    ∙ ap (λ (d : Bool). split_if d t a) (sym (any_last (λ b. due k t b a) 0 n n (omega arith)))
  where
    go : (d : Bool) → row Conforming k t a n ≡ split_if d t a → row Conforming k t a (suc n) ≡ split_if (d || due k t n a) t a
    go true r =
        row-skip Conforming k t a n (no-leaf Conforming k (row Conforming k t a n) a n (rw r (split-no-leaf t a ha))) ∙ r
    go false r = row-next Conforming k t a n ∙ ap (λ (u : List Cell). split_if (due k u n a) u a) r
