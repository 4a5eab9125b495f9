-- What a loop over a row needs: a pair that is due, one that is not, a row that is done early, and the lengths on the way.
-- Assumes nothing.
use Rattle.std.proofs.Common.{◌≡◌, refl, ap, ◌∙◌, Bool, true, false, ◌&&◌, true≢false, List, ℕ, zero, suc, ◌+◌, ◌<◌, ◌≤◌, arith, add-zero, add-suc, length, is_none}
use Rattle.table.specs.Mesh.{Cell, split, is_leaf}
use Rattle.coarsest.specs.declared.Engine.{Engine}
use Rattle.coarsest.specs.declared.Engine.TheVariants.{Balancing, Conforming}
use Rattle.coarsest.specs.Passes.{is_due, due, split_if, step}
use Rattle.coarsest.specs.Sweep.{row, rows}
use Rattle.table.proofs.Meshes.{at_self}
use Rattle.coarsest.proofs.Sweep.{row-next, rows-next, row-suc, row-grown, rows_grown, grown-least}

-- the cell of the pair that is split
abbrev pub coarser : Engine → ℕ → ℕ → ℕ
coarser Balancing a b = b
coarser Conforming a b = a

-- one pair
pub row-due : (e : Engine) (k : ℕ) (t : List Cell) (a b : ℕ) → is_due e k (row e k t a b) a b ≡ true → row e k t a (suc b) ≡ split (row e k t a b) (coarser e a b)
unfolding step
row-due Balancing k t a b d = row-next Balancing k t a b ∙ ap (λ (x : Bool). split_if x (row Balancing k t a b) b) d
row-due Conforming k t a b d = row-next Conforming k t a b ∙ ap (λ (x : Bool). split_if x (row Conforming k t a b) a) d

pub row-skip : (e : Engine) (k : ℕ) (t : List Cell) (a b : ℕ) → is_due e k (row e k t a b) a b ≡ false → row e k t a (suc b) ≡ row e k t a b
unfolding step
row-skip Balancing k t a b d = row-next Balancing k t a b ∙ ap (λ (x : Bool). split_if x (row Balancing k t a b) b) d
row-skip Conforming k t a b d = row-next Conforming k t a b ∙ ap (λ (x : Bool). split_if x (row Conforming k t a b) a) d

-- nothing is due for an a or a b that is no leaf: a's row is done once a is split
and-false : (x y z : Bool) → y ≡ false → (x && (y && z)) ≡ false
and-false true true z e = absurd (true≢false e)
and-false true false z e = refl
and-false false y z e = refl

pub no-leaf : (e : Engine) (k : ℕ) (t : List Cell) (a b : ℕ) → is_leaf t a ≡ false → is_due e k t a b ≡ false
unfolding due
no-leaf Balancing k t a b h = and-false true (is_leaf t a) _ h
no-leaf Conforming k t a b h = and-false (is_leaf t b) (is_leaf t a) _ h

pub no-leaf-b : (e : Engine) (k : ℕ) (t : List Cell) (a b : ℕ) → is_leaf t b ≡ false → is_due e k t a b ≡ false
unfolding due
no-leaf-b Balancing k t a b h = and-false (is_leaf t a) (is_leaf t b) _ h
no-leaf-b Conforming k t a b h = and-false true (is_leaf t b) _ h

pub split-no-leaf : (t : List Cell) (c : ℕ) → c < length t → is_leaf (split t c) c ≡ false
split-no-leaf t c h = ap (λ (x : Cell). is_none x.kids) (at_self t c h)

pub row_done : (e : Engine) (k : ℕ) (t : List Cell) (a b d : ℕ) → is_leaf (row e k t a b) a ≡ false → row e k t a (b + d) ≡ row e k t a b
row_done e k t a b zero h = ap (row e k t a) (add-zero b)
row_done e k t a b (suc d) h =
    let r = row_done e k t a b d h in
    ap (row e k t a) (add-suc b d)
    ∙ row-skip e k t a (b + d) (no-leaf e k (row e k t a (b + d)) a (b + d) (ap (λ (x : List Cell). is_leaf x a) r ∙ h))
    ∙ r

-- lengths on the way: a row, the rows of a pass
pub row-most : (e : Engine) (k n : ℕ) (t : List Cell) (a b d : ℕ) → a < n → b + d ≤ n → n ≤ length t → length (row e k t a b) ≤ length (row e k t a (b + d))
row-most e k n t a b zero ha h l = rw add-zero (omega arith)
row-most e k n t a b (suc d) ha h l =
    let i = row-most e k n t a b d ha (omega arith) l in
    let s = row-suc e k n t a (b + d) ha (omega arith) l in
    rw add-suc (omega arith)

rows-suc : (e : Engine) (k n : ℕ) (t : List Cell) (a : ℕ) → a < n → n ≤ length t → length (rows e k n t a) ≤ length (rows e k n t (suc a))
rows-suc e k n t a h l =
    let u = rows e k n t a in
    let g = grown-least t u (rows_grown e k n t a (omega arith) l) in
    rw (rows-next e k n t a) (grown-least u (row e k u a n) (row-grown e k n u a n h (omega arith) (omega arith)))

pub rows-most : (e : Engine) (k n : ℕ) (t : List Cell) (a d : ℕ) → a + d ≤ n → n ≤ length t → length (rows e k n t a) ≤ length (rows e k n t (a + d))
rows-most e k n t a zero h l = rw add-zero (omega arith)
rows-most e k n t a (suc d) h l =
    let i = rows-most e k n t a d (omega arith) l in
    let s = rows-suc e k n t (a + d) (omega arith) l in
    rw add-suc (omega arith)
