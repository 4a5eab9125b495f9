-- Closed boxes that meet: boxes that share an edge do, and a box meets what one of its quadrants meets. So a leaf that is to be split for
-- a has only cells above it that are near a. Assumes nothing.
use Rattle.std.proofs.Common.{◌≡◌, refl, sym, ap, subst, ◌∙◌, Bool, true, false, ◌&&◌, None, Some, List, [], ◌∷◌, ◌++◌, ℕ, ◌+◌, ◌<◌, ◌≤◌, arith, ltb, leb, length, leb-true, le-leb, le-ltb, lt-ltb}
use borrow.Author.Tests.{lt-leb}
use Rattle.cell.specs.Boxes.{Box, Quad, sw, se, nw, ne, num, quadrant, shares_edge}
use Rattle.cell.proofs.Contact.{and_both, and_left, and_right, Touch, east, west, north, south, shares→touch, shares-sym}
use Rattle.table.specs.Mesh.{Cell, past, at}
use Rattle.table.specs.Formed.{Formed}
use Rattle.table.proofs.Meshes.{beyond, kids-in}
use Rattle.coarsest.specs.Passes.{due}
use Rattle.coarsest.specs.Names.{Route, find}
use Rattle.coarsest.proofs.Least.{due-of}
use Rattle.coarsest.proofs.Find.{find-up, find-root, find-rooted, named}
use Rattle.coarsest.proofs.Sides.{cell-sides}
use Rattle.search.specs.Search.{meet, near_cells, Reach, Under}

pub record Meet (a b : Box) : Type 0 where
  pub west : a.x0 ≤ b.x1
  pub east : b.x0 ≤ a.x1
  pub south : a.y0 ≤ b.y1
  pub north : b.y0 ≤ a.y1

pub of-meet : (a b : Box) → Meet a b → meet a b ≡ true
unfolding meet
of-meet a b m =
    and_both (leb a.x0 b.x1 && leb b.x0 a.x1) (leb a.y0 b.y1 && leb b.y0 a.y1)
    (and_both (leb a.x0 b.x1) (leb b.x0 a.x1) (le-leb _ _ m.west) (le-leb _ _ m.east))
    (and_both (leb a.y0 b.y1) (leb b.y0 a.y1) (le-leb _ _ m.south) (le-leb _ _ m.north))

pub meet-is : (a b : Box) → meet a b ≡ true → Meet a b
unfolding meet
meet-is a b e =
    let p = leb a.x0 b.x1 in
    let q = leb b.x0 a.x1 in
    let r = leb a.y0 b.y1 in
    let s = leb b.y0 a.y1 in
    let x = and_left (p && q) (r && s) e in
    let y = and_right (p && q) (r && s) e in
    record {
      west = leb-true a.x0 b.x1 (and_left p q x);
      east = leb-true b.x0 a.x1 (and_right p q x);
      south = leb-true a.y0 b.y1 (and_left r s y);
      north = leb-true b.y0 a.y1 (and_right r s y);
    }

-- no side ends before it begins
pub record Straight (b : Box) : Type 0 where
  pub wide : b.x0 ≤ b.x1
  pub high : b.y0 ≤ b.y1

touch-meet : (a b : Box) → Straight a → Straight b → Touch a b → Meet a b
touch-meet a b s r (east e h) = let w = s.wide in let v = r.wide in record { west = omega arith; east = omega arith; south = omega arith; north = omega arith }
touch-meet a b s r (west e h) = let w = s.wide in let v = r.wide in record { west = omega arith; east = omega arith; south = omega arith; north = omega arith }
touch-meet a b s r (north e h) = let w = s.high in let v = r.high in record { west = omega arith; east = omega arith; south = omega arith; north = omega arith }
touch-meet a b s r (south e h) = let w = s.high in let v = r.high in record { west = omega arith; east = omega arith; south = omega arith; north = omega arith }

pub shares-meet : (a b : Box) → Straight a → Straight b → shares_edge a b ≡ true → Meet a b
shares-meet a b s r e = touch-meet a b s r (shares→touch a b e)

-- a box meets what a quadrant of it meets
pub quadrant-meet : (a b : Box) (q : Quad) → Straight b → Meet a (quadrant b q) → Meet a b
quadrant-meet a b sw s m =
    let w = s.wide in let h = s.high in let i = m.west in let j = m.east in let k = m.south in let l = m.north in
    record { west = omega arith; east = omega arith; south = omega arith; north = omega arith }
quadrant-meet a b se s m =
    let w = s.wide in let h = s.high in let i = m.west in let j = m.east in let k = m.south in let l = m.north in
    record { west = omega arith; east = omega arith; south = omega arith; north = omega arith }
quadrant-meet a b nw s m =
    let w = s.wide in let h = s.high in let i = m.west in let j = m.east in let k = m.south in let l = m.north in
    record { west = omega arith; east = omega arith; south = omega arith; north = omega arith }
quadrant-meet a b ne s m =
    let w = s.wide in let h = s.high in let i = m.west in let j = m.east in let k = m.south in let l = m.north in
    record { west = omega arith; east = omega arith; south = omega arith; north = omega arith }

-- what stands past the table's end has no edge
pub due-past : (k : ℕ) (t : List Cell) (a b : ℕ) → length t ≤ b → due k t a b ≡ true → ⊥
due-past k t a b h d = by (subst (λ (x : Cell). Touch (at t a).box x.box) (beyond t b h) (shares→touch (at t a).box (at t b).box (due-of k t a b d).shares))
  where
    by : Touch (at t a).box past.box → ⊥
    by (east p l) = omega arith
    by (west p l) = omega arith
    by (north p l) = omega arith
    by (south p l) = omega arith

pub past-due : (k : ℕ) (t : List Cell) (a b : ℕ) → length t ≤ b → due k t b a ≡ true → ⊥
past-due k t a b h d = by (subst (λ (x : Cell). Touch x.box (at t a).box) (beyond t b h) (shares→touch (at t b).box (at t a).box (due-of k t b a d).shares))
  where
    by : Touch past.box (at t a).box → ⊥
    by (east p l) = omega arith
    by (west p l) = omega arith
    by (north p l) = omega arith
    by (south p l) = omega arith

-- ---- the tree

-- one step further down
reach-kid : (t : List Cell) (p : Route) (c j f : ℕ) (q : Quad) → Reach t p c j → (at t j).kids ≡ Some f → Reach t (p ++ (q ∷ [])) c (f + num q)
reach-kid t [] c j f q r e = (f, ap (λ (x : ℕ). (at t x).kids) r ∙ e, refl)
reach-kid t (o ∷ p) c j f q r e = (r.0, r.1, reach-kid t p (r.0 + num o) j f q r.2 e)

-- every name leads from its root down to its cell
reach-find : (t : List Cell) (r : ℕ) (p : Route) (i : ℕ) → find t r p ≡ Some i → Under t r i
reach-find t r [] i e = record { route = []; reach = sym (find-root t r i e).0 }
reach-find t r (q ∷ p) i e =
    let u = find-up t r q p i e in
    let v = reach-find t r p u.parent u.found in
    record {
      route = v.route ++ (q ∷ []);
      reach = subst (Reach t (v.route ++ (q ∷ [])) r) (sym u.here) (reach-kid t v.route r u.parent u.first q v.reach u.kids);
    }

module _ (M : ℕ) (t : List Cell) (formed : Formed M t) where
  pub record Rooted (i : ℕ) : Type 0 where
    pub root : ℕ
    pub top : (at t root).parent ≡ None
    pub under : Under t root i

  -- every cell stands in the subtree of a root
  pub rooted : (i : ℕ) → i < length t → Rooted i
  rooted i h =
      let n = named M t formed i h in
      record { root = n.root; top = find-rooted t n.root n.path i n.found; under = reach-find t n.root n.path i n.found }

  pub straight : (i : ℕ) → i < length t → Straight (at t i).box
  straight i h =
      let s = cell-sides M t formed i h in
      record { wide = (let e = s.0.1 in omega arith); high = (let e = s.1.1 in omega arith) }

  pub record Above (a : Box) (c b : ℕ) : Type 0 where
    pub meets : Meet a (at t c).box
    pub level : (at t c).level ≤ (at t b).level

  above : (a : Box) (p : Route) (c b : ℕ) → Reach t p c b → Meet a (at t b).box → Above a c b
  above a [] c b r m = record { meets = rw r m; level = (let e = ap (λ (x : ℕ). (at t x).level) r in omega arith) }
  above a (q ∷ p) c b r m =
      let h = kids-in t c r.0 r.1 in
      let k = (formed.split c r.0 r.1).kid q in
      let u = above a p (r.0 + num q) b r.2 m in
      let l = u.level in
      let e = k.level in
      record { meets = quadrant-meet a (at t c).box q (straight c h) (rw (← k.box) u.meets); level = omega arith }

  -- a cell meets what a cell in its subtree meets, and is no finer
  pub under-above : (a : Box) (c b : ℕ) → Under t c b → Meet a (at t b).box → Above a c b
  under-above a c b u m = above a u.route c b u.reach m

  -- what is to be split for a stands in the subtrees of near cells only
  pub near_of : (k a c b : ℕ) → a < length t → b < length t → Under t c b → due k t a b ≡ true → near_cells k (at t a) (at t c) ≡ true
  unfolding near_cells
  near_of k a c b ha hb u d =
      let w = due-of k t a b d in
      let v = above (at t a).box u.route c b u.reach (shares-meet (at t a).box (at t b).box (straight a ha) (straight b hb) w.shares) in
      let l = v.level in
      let g = w.apart in
      and_both (ltb ((at t c).level + k) (at t a).level) (meet (at t a).box (at t c).box) (lt-ltb ((at t c).level + k) (at t a).level (omega arith)) (of-meet (at t a).box (at t c).box v.meets)

  -- what asks for a to be split stands in the subtrees of cells that meet a only
  pub meet-of : (k a c b : ℕ) → a < length t → b < length t → Under t c b → due k t b a ≡ true → meet (at t a).box (at t c).box ≡ true
  meet-of k a c b ha hb u d =
      let e = shares-sym (at t b).box (at t a).box (due-of k t b a d).shares in
      of-meet (at t a).box (at t c).box
      (above (at t a).box u.route c b u.reach (shares-meet (at t a).box (at t b).box (straight a ha) (straight b hb) e)).meets

-- the tests by their numbers
pub near-level : (k : ℕ) (a c : Cell) → a.level ≤ c.level + k → near_cells k a c ≡ false
unfolding near_cells
near-level k a c h = rw (le-ltb (c.level + k) a.level h)

pub near_apart : (k : ℕ) (a c : Cell) → meet a.box c.box ≡ false → near_cells k a c ≡ false
unfolding near_cells
near_apart k a c e = rw e (and_no (ltb (c.level + k) a.level))
  where
    and_no : (b : Bool) → (b && false) ≡ false
    and_no true = refl
    and_no false = refl

module _ (a b : Box) where
  pub apart-west : b.x1 < a.x0 → meet a b ≡ false
  unfolding meet
  apart-west h = rw (lt-leb a.x0 b.x1 h)

  pub apart-east : a.x1 < b.x0 → meet a b ≡ false
  unfolding meet
  apart-east h = rw (lt-leb b.x0 a.x1 h) (second-no (leb a.x0 b.x1) _)
    where
      second-no : (x y : Bool) → ((x && false) && y) ≡ false
      second-no true y = refl
      second-no false y = refl

  pub apart-south : b.y1 < a.y0 → meet a b ≡ false
  unfolding meet
  apart-south h = rw (lt-leb a.y0 b.y1 h) (third-no (leb a.x0 b.x1 && leb b.x0 a.x1))
    where
      third-no : (x : Bool) → (x && false) ≡ false
      third-no true = refl
      third-no false = refl

  pub apart-north : a.y1 < b.y0 → meet a b ≡ false
  unfolding meet
  apart-north h = rw (lt-leb b.y0 a.y1 h) (last-no (leb a.x0 b.x1 && leb b.x0 a.x1) (leb a.y0 b.y1))
    where
      last-no : (x y : Bool) → (x && (y && false)) ≡ false
      last-no true true = refl
      last-no true false = refl
      last-no false y = refl

-- what the tests of boxes need
pub ruleset apart = (apart-west, apart-east, apart-south, apart-north)

pub ruleset nearing = (near-level, near_apart)
