-- Every strip of a ring has a positive width and height and lies in the frame of coordinates. Assumes nothing.
use Rattle.std.proofs.Common.{ℕ, zero, suc, ◌+◌, ◌<◌, ◌≤◌, arith, get_or, Bool, List, [], ◌∷◌, ◌++◌, map, ℤ, ltb, leb, eqb, length, ltb-true}
use Rattle.std.specs.List.{dedup, range_with_len, AllByRecursion}
use Rattle.cell.proofs.Offsets.{off-le}
use Rattle.refusals.specs.Limits.{coordinate}
use Rattle.strips.specs.Sorted.{insert, sorted}
use Rattle.strips.specs.Rings.{x_at, y_at}
use Rattle.strips.specs.Strips.{levels, crossings, pair_up, banded, strips_of}
use Rattle.strips.specs.Walk.{Sound}
use Rattle.strips.specs.declared.walk.Strip.{Strip}
use Rattle.strips.proofs.Picking.{picked, split}
use Rattle.strips.proofs.Distinct.{Above, Strict, strict-levels}

pub sound-first : (s : Strip) (ss : List Strip) → AllByRecursion Sound (s ∷ ss) → Sound s
sound-first s ss a = a.0

pub sound-rest : (s : Strip) (ss : List Strip) → AllByRecursion Sound (s ∷ ss) → AllByRecursion Sound ss
sound-rest s ss a = a.1

sound-append : (a b : List Strip) → AllByRecursion Sound a → AllByRecursion Sound b → AllByRecursion Sound (a ++ b)
sound-append [] b p q = q
sound-append (s ∷ a) b p q = (p.0, sound-append a b p.1 q)

-- each number of a list is a coordinate
Under : List ℕ → Type 0
Under [] = Unit
Under (v ∷ l) = (v ≤ coordinate + coordinate) × Under l

under-insert : (v : ℕ) (l : List ℕ) → v ≤ coordinate + coordinate → Under l → Under (insert v l)
unfolding Under insert
under-insert v [] h u = (h, tt)
under-insert v (w ∷ l) h u =
    let r = under-insert v l h u.1 in
    split (leb v w) (λ e. rw e (h, u)) (λ e. rw e (u.0, r))

under-sorted : (l : List ℕ) → Under l → Under (sorted l)
unfolding Under sorted
under-sorted [] u = tt
under-sorted (v ∷ l) u = under-insert v (sorted l) u.0 (under-sorted l u.1)

under-kept : (v : ℕ) (l : List ℕ) → Under (v ∷ l) → Under (dedup eqb (v ∷ l))
unfolding Under
under-kept v [] u = u
under-kept v (w ∷ l) u =
    let r = under-kept v l (u.0, u.1.1) in
    let i = under-kept w l u.1 in
    split (eqb w v) (λ e. rw e r) (λ e. rw e (u.0, i))

under-dedup : (l : List ℕ) → Under l → Under (dedup eqb l)
unfolding Under
under-dedup [] u = tt
under-dedup (v ∷ l) u = under-kept v l u

under-picked : (p : ℕ → Bool) (f : ℕ → ℕ) (l : List ℕ) → ((i : ℕ) → f i ≤ coordinate + coordinate) → Under (picked p f l)
unfolding Under
under-picked p f [] h = tt
under-picked p f (i ∷ l) h =
    let r = under-picked p f l h in
    split (p i) (λ e. rw e (h i, r)) (λ e. rw e r)

under-map : (f : ℕ → ℕ) (l : List ℕ) → ((i : ℕ) → f i ≤ coordinate + coordinate) → Under (map f l)
unfolding Under
under-map f [] h = tt
under-map f (i ∷ l) h = (h i, under-map f l h)

sound-pairs : (lo hi : ℕ) (l : List ℕ) → lo < hi → hi ≤ coordinate + coordinate → Under l → AllByRecursion Sound (pair_up lo hi l)
unfolding pair_up Under
sound-pairs lo hi [] h t u = tt
sound-pairs lo hi (a ∷ []) h t u = tt
sound-pairs lo hi (a ∷ b ∷ l) h t u =
    let r = sound-pairs lo hi l h t u.1.1 in
    split (ltb a b)
    (λ e. rw e (record { wide = ltb-true a b e; tall = h; right = u.1.0; top = t }, r))
    (λ e. rw e r)

under-crossings : (ps : List (List ℤ)) (lo hi : ℕ) → Under (crossings ps lo hi)
unfolding crossings
under-crossings ps lo hi = under-sorted _ (under-picked _ (x_at ps) (range_with_len 0 (length ps)) (λ i. off-le _))

sound-banded : (ps : List (List ℤ)) (hs : List ℕ) → Strict hs → Under hs → AllByRecursion Sound (banded ps hs)
unfolding banded Strict Above Under
sound-banded ps [] s u = tt
sound-banded ps (lo ∷ []) s u = tt
sound-banded ps (lo ∷ hi ∷ hs) s u =
    sound-append (pair_up lo hi (crossings ps lo hi)) (banded ps (hi ∷ hs))
    (sound-pairs lo hi (crossings ps lo hi) s.0.0 u.1.0 (under-crossings ps lo hi))
    (sound-banded ps (hi ∷ hs) s.1 u.1)

under-levels : (ps : List (List ℤ)) → Under (levels ps)
unfolding levels
under-levels ps =
    let ys = map (y_at ps) (range_with_len 0 (length ps)) in
    under-dedup (sorted ys) (under-sorted ys (under-map (y_at ps) (range_with_len 0 (length ps)) (λ i. off-le _)))

under-at : (l : List ℕ) (k : ℕ) → Under l → get_or l k 0 ≤ coordinate + coordinate
unfolding Under
under-at [] k u = omega arith
under-at (v ∷ l) zero u = u.0
under-at (v ∷ l) (suc k) u = under-at l k u.1

-- each level is a coordinate
pub level-under : (ps : List (List ℤ)) (k : ℕ) → get_or (levels ps) k 0 ≤ coordinate + coordinate
level-under ps k = under-at (levels ps) k (under-levels ps)

pub strips-sound : (ps : List (List ℤ)) → AllByRecursion Sound (strips_of ps)
unfolding strips_of
strips-sound ps =
    let r = sound-banded ps (levels ps) (strict-levels ps) (under-levels ps) in
    split (ltb (length ps) 3) (λ e. rw e tt) (λ e. rw e r)
