-- The cuts are exact: a cell's sides are positive multiples of a power of two that its level tells. Assumes nothing.
use Rattle.std.proofs.Common.{◌≡◌, sym, ap, subst, ◌∙◌, List, [], ◌∷◌, ℕ, suc, ◌+◌, ◌*◌, ◌-◌, ◌^◌, ◌<◌, ◌≤◌, arith, pow-suc, pow_pos, mul-pos, mul_assoc, length, Some}
use native.Mathlib.Nat.{sub-zero}
use Rattle.cell.specs.Boxes.{Box, Quad, num, sw, se, nw, ne, quadrant, mid}
use Rattle.table.specs.Mesh.{Cell, at}
use Rattle.coarsest.specs.Names.{Route, place}
use Rattle.coarsest.specs.Laws.{IsCutExactly, NoCutRounds, ChildrenAreHalves}
use Rattle.table.specs.Formed.{Formed}
use Rattle.coarsest.proofs.Find.{named, tells, find-rooted}
use Rattle.coarsest.proofs.Least.{level-most}

-- from a to b it is a positive multiple of 2 ^ n
abbrev pub Span : ℕ → ℕ → ℕ → Type 0
Span n a b = (m : ℕ) × (b ≡ a + suc m * 2 ^ n)

abbrev Cut : ℕ → ℕ → ℕ → Type 0
Cut n a b = Span n a (mid a b) × Span n (mid a b) b

twice : (m n : ℕ) → suc m * 2 ^ suc n ≡ suc m * 2 ^ n * 2
twice m n = ap (λ (x : ℕ). suc m * x) (pow-suc 2 n) ∙ sym (mul_assoc (suc m) (2 ^ n) 2)

-- each half is a multiple of half the power
cut : (n a b : ℕ) → Span (suc n) a b → Cut n a b
cut n a b s = let e = s.1 in let d = twice s.0 n in ((s.0, omega arith), (s.0, omega arith))

abbrev pub Sides : ℕ → Box → Type 0
Sides n B = Span n B.x0 B.x1 × Span n B.y0 B.y1

quadrant-sides : (n : ℕ) (B : Box) (q : Quad) → Sides (suc n) B → Sides n (quadrant B q)
quadrant-sides n B sw s = ((cut n B.x0 B.x1 s.0).0, (cut n B.y0 B.y1 s.1).0)
quadrant-sides n B se s = ((cut n B.x0 B.x1 s.0).1, (cut n B.y0 B.y1 s.1).0)
quadrant-sides n B nw s = ((cut n B.x0 B.x1 s.0).0, (cut n B.y0 B.y1 s.1).1)
quadrant-sides n B ne s = ((cut n B.x0 B.x1 s.0).1, (cut n B.y0 B.y1 s.1).1)

pub place-sides : (M : ℕ) (A : Box) → Sides (M + 1) A → (p : Route) → length p ≤ M → Sides (M + 1 - length p) (place A p)
place-sides M A s [] h = rw sub-zero s
place-sides M A s (q ∷ p) h =
    let e : M + 1 - length p ≡ suc (M + 1 - suc (length p)) = omega arith in
    quadrant-sides (M + 1 - suc (length p)) (place A p) q (subst (λ (n : ℕ). Sides n (place A p)) e (place-sides M A s p (omega arith)))

-- every cell's: at level l, multiples of 2 ^ (M + 1 - l), so that a cell's middles are exact as long as l ≤ M
pub cell-sides : (M : ℕ) (t : List Cell) → Formed M t → (i : ℕ) → i < length t → Sides (M + 1 - (at t i).level) (at t i).box
cell-sides M t formed i h =
    let n = named M t formed i h in
    let s = tells M t formed n.root n.path i n.found in
    let r = formed.root n.root (find-rooted t n.root n.path i n.found) in
    let m = level-most M t formed i h in
    let l = s.level in
    rw (s.box, s.level) (place-sides M (at t n.root).box (r.wide, r.high) n.path (omega arith))

-- ---- the law that src/laws.rt promises: no cut rounds

halved : (n a b : ℕ) → Span (suc n) a b → IsCutExactly a b
halved n a b s =
    let e = s.1 in
    let d = twice s.0 n in
    let p : 0 < suc s.0 * 2 ^ n = mul-pos (omega arith) (pow_pos n) in
    (suc s.0 * 2 ^ n, p, omega arith, omega arith)

pub no-cut-rounds : NoCutRounds
no-cut-rounds M t formed i h =
    let m = level-most M t formed i h in
    let e : M + 1 - (at t i).level ≡ suc (M - (at t i).level) = omega arith in
    let s = subst (λ (n : ℕ). Sides n (at t i).box) e (cell-sides M t formed i h) in
    (halved (M - (at t i).level) _ _ s.0, halved (M - (at t i).level) _ _ s.1)

-- one side of a child of a side that is cut exactly
lower : (a b : ℕ) → IsCutExactly a b → 2 * (mid a b - a) ≡ b - a
lower a b s = let e = s.2 in let f = s.3 in omega arith

upper : (a b : ℕ) → IsCutExactly a b → 2 * (b - mid a b) ≡ b - a
upper a b s = let e = s.2 in let f = s.3 in omega arith

abbrev HalfOf : Box → Box → Type 0
HalfOf child parent = (2 * (child.x1 - child.x0) ≡ parent.x1 - parent.x0) × (2 * (child.y1 - child.y0) ≡ parent.y1 - parent.y0)

quadrant-half : (B : Box) (q : Quad) → IsCutExactly B.x0 B.x1 → IsCutExactly B.y0 B.y1 → HalfOf (quadrant B q) B
quadrant-half B sw x y = (lower _ _ x, lower _ _ y)
quadrant-half B se x y = (upper _ _ x, lower _ _ y)
quadrant-half B nw x y = (lower _ _ x, upper _ _ y)
quadrant-half B ne x y = (upper _ _ x, upper _ _ y)

pub children-are-halves : ChildrenAreHalves
children-are-halves M t formed i f e q =
    let s = formed.split i f e in
    let h : i < length t = omega (arith, s.above, s.below) in
    let c = no-cut-rounds M t formed i h in
    subst (λ (b : Box). HalfOf b (at t i).box) (sym (s.kid q).box) (quadrant-half (at t i).box q c.0 c.1)
