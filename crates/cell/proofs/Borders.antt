-- Borders by side: what it takes to have one on a side; that boxes with an area have one side at most; and that the two
-- exchanged have the opposite one. Assumes nothing.
use Rattle.std.proofs.Common.{ℕ, ◌≡◌, refl, sym, ap, subst, ◌∙◌, ◌<◌, min, max, Bool, true, false, ◌==◌, if◌then◌else◌, List, [], ◌∷◌, Option, None, Some, arith, ltb, ltb-true, lt-ltb, eqb, eqb-true}
use Rattle.std.specs.Option.{is_some, unwrap_or}
use mathlib.Core.Bool.{false≢true}
use Rattle.cell.specs.declared.border.Border.{Border}
use Rattle.cell.specs.declared.border.Side.{Side}
use Rattle.cell.specs.declared.border.Side.TheVariants.{South, East, North, West}
use Rattle.cell.specs.Boxes.{Box, HasArea, common, length_on, first_border, border}
use Rattle.cell.specs.Laws.{opposite, turned}

-- a side on which there is a border: the two lie on one line, and their ranges overlap
abbrev pub On : Side → Box → Box → Type 0
On South a b = (b.y1 ≡ a.y0) × (max a.x0 b.x0 < min a.x1 b.x1)
On East a b = (a.x1 ≡ b.x0) × (max a.y0 b.y0 < min a.y1 b.y1)
On North a b = (a.y1 ≡ b.y0) × (max a.x0 b.x0 < min a.x1 b.x1)
On West a b = (b.x1 ≡ a.x0) × (max a.y0 b.y0 < min a.y1 b.y1)

-- a length is positive where it is asked for: `p` is the test of the line
line-met : (m n h : ℕ) → 0 < (if m == n then h else 0) → (m ≡ n) × (0 < h)
line-met m n h = by (eqb m n) refl
  where
    by : (t : Bool) → eqb m n ≡ t → 0 < (if t then h else 0) → (m ≡ n) × (0 < h)
    by true e p = (eqb-true m n e, p)
    by false e p = absurd (omega (arith, p))

pub on-side : (s : Side) (a b : Box) → 0 < length_on s a b → On s a b
on-side South a b p = let h = line-met b.y1 a.y0 (common a.x0 a.x1 b.x0 b.x1) p in (h.0, omega (arith, h.1))
on-side East a b p = let h = line-met a.x1 b.x0 (common a.y0 a.y1 b.y0 b.y1) p in (h.0, omega (arith, h.1))
on-side North a b p = let h = line-met a.y1 b.y0 (common a.x0 a.x1 b.x0 b.x1) p in (h.0, omega (arith, h.1))
on-side West a b p = let h = line-met b.x1 a.x0 (common a.y0 a.y1 b.y0 b.y1) p in (h.0, omega (arith, h.1))

-- at most one side
pub one-side : (a b : Box) → HasArea a → HasArea b → (s t : Side) → On s a b → On t a b → s ≡ t
one-side a b i j South South p q = refl
one-side a b i j South East p q = absurd (omega (arith, p.0, p.1, q.0, q.1, i.1, j.1))
one-side a b i j South North p q = absurd (omega (arith, p.0, p.1, q.0, q.1, i.1, j.1))
one-side a b i j South West p q = absurd (omega (arith, p.0, p.1, q.0, q.1, i.1, j.1))
one-side a b i j East South p q = absurd (omega (arith, p.0, p.1, q.0, q.1, i.0, j.0))
one-side a b i j East East p q = refl
one-side a b i j East North p q = absurd (omega (arith, p.0, p.1, q.0, q.1, i.0, j.0))
one-side a b i j East West p q = absurd (omega (arith, p.0, p.1, q.0, q.1, i.0, j.0))
one-side a b i j North South p q = absurd (omega (arith, p.0, p.1, q.0, q.1, i.1, j.1))
one-side a b i j North East p q = absurd (omega (arith, p.0, p.1, q.0, q.1, i.1, j.1))
one-side a b i j North North p q = refl
one-side a b i j North West p q = absurd (omega (arith, p.0, p.1, q.0, q.1, i.1, j.1))
one-side a b i j West South p q = absurd (omega (arith, p.0, p.1, q.0, q.1, i.0, j.0))
one-side a b i j West East p q = absurd (omega (arith, p.0, p.1, q.0, q.1, i.0, j.0))
one-side a b i j West North p q = absurd (omega (arith, p.0, p.1, q.0, q.1, i.0, j.0))
one-side a b i j West West p q = refl

-- ---- what `border` answers

-- of a list of sides: the one that counts, if it is listed and no other counts
data Listed (s : Side) : List Side → Type 0 where
  first : (ss : List Side) → Listed s (s ∷ ss)
  later : (t : Side) (ss : List Side) → Listed s ss → Listed s (t ∷ ss)

first-is : (a b : Box) (s : Side) → 0 < length_on s a b → ((t : Side) → 0 < length_on t a b → t ≡ s) → (ss : List Side) → Listed s ss
    → first_border ss a b ≡ Some (record { side = s; length = length_on s a b })
first-is a b s p only ss (first us) = rw (lt-ltb 0 (length_on s a b) p) refl
first-is a b s p only ss (later t us l) = by (ltb 0 (length_on t a b)) refl (first-is a b s p only us l)
  where
    by : (w : Bool) → ltb 0 (length_on t a b) ≡ w → first_border us a b ≡ Some (record { side = s; length = length_on s a b })
        → first_border (t ∷ us) a b ≡ Some (record { side = s; length = length_on s a b })
    by true e r = rw (e, only t (ltb-true 0 (length_on t a b) e)) refl
    by false e r = rw e r

in-turn : (s : Side) → Listed s (East ∷ West ∷ North ∷ South ∷ [])
in-turn East = first _
in-turn West = later _ _ (first _)
in-turn North = later _ _ (later _ _ (first _))
in-turn South = later _ _ (later _ _ (later _ _ (first _)))

pub on-any-side : (a b : Box) → HasArea a → HasArea b → (s : Side) → 0 < length_on s a b → border a b ≡ Some (record { side = s; length = length_on s a b })
unfolding border
on-any-side a b i j s p =
    first-is a b s p (λ t q. one-side a b i j t s (on-side t a b q) (on-side s a b p)) _ (in-turn s)

first-has : (a b : Box) (c : Border) (ss : List Side) → first_border ss a b ≡ Some c → (c.length ≡ length_on c.side a b) × (0 < c.length)
first-has a b c [] e = absurd (false≢true (ap is_some e))
first-has a b c (s ∷ ss) e = by (ltb 0 (length_on s a b)) refl (first-has a b c ss)
  where
    by : (w : Bool) → ltb 0 (length_on s a b) ≡ w → (first_border ss a b ≡ Some c → (c.length ≡ length_on c.side a b) × (0 < c.length))
        → (c.length ≡ length_on c.side a b) × (0 < c.length)
    by true h rest =
        let same : record { side = s; length = length_on s a b } ≡ c = ap (λ o. unwrap_or o c) (rw h at e) in
        subst (λ d. (d.length ≡ length_on d.side a b) × (0 < d.length)) same (refl, ltb-true 0 (length_on s a b) h)
    by false h rest = rest (rw h at e)

pub has-length : (a b : Box) (c : Border) → border a b ≡ Some c → (c.length ≡ length_on c.side a b) × (0 < c.length)
unfolding border
has-length a b c = first-has a b c (East ∷ West ∷ North ∷ South ∷ [])

-- ---- the two exchanged

common-turned : (a b c d : ℕ) → common c d a b ≡ common a b c d
common-turned a b c d = omega arith

length-turned : (s : Side) (a b : Box) → length_on (opposite s) b a ≡ length_on s a b
length-turned South a b = rw (common-turned a.x0 a.x1 b.x0 b.x1) refl
length-turned East a b = rw (common-turned a.y0 a.y1 b.y0 b.y1) refl
length-turned North a b = rw (common-turned a.x0 a.x1 b.x0 b.x1) refl
length-turned West a b = rw (common-turned a.y0 a.y1 b.y0 b.y1) refl

border-some : (a b : Box) → HasArea a → HasArea b → (c : Border) → border a b ≡ Some c
    → border b a ≡ Some (record { side = opposite c.side; length = c.length })
border-some a b i j c e =
    let h = has-length a b c e in
    let l : length_on (opposite c.side) b a ≡ c.length = length-turned c.side a b ∙ sym h.0 in
    rw l at (on-any-side b a j i (opposite c.side) (rw l h.1))

opposite-twice : (s : Side) → opposite (opposite s) ≡ s
opposite-twice South = refl
opposite-twice East = refl
opposite-twice North = refl
opposite-twice West = refl

pub border-turned : (a b : Box) → HasArea a → HasArea b → border b a ≡ turned (border a b)
border-turned a b i j = by (border a b) (border b a) refl refl
  where
    by : (o u : Option Border) → border a b ≡ o → border b a ≡ u → u ≡ turned o
    by None None e f = refl
    by None (Some d) e f = absurd (false≢true (ap is_some (sym e ∙ border-some b a j i d f)))
    by (Some c) u e f = sym f ∙ border-some a b i j c e
