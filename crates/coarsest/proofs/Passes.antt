-- A sweep over all ids below the count is the rules' pass, over the leaves of its start; so what one split keeps, a pass keeps; and
-- a pass that makes no split leaves nothing due. Assumes nothing.
use Rattle.std.proofs.Common.{◌≡◌, refl, sym, ap, subst, ◌∙◌, Bool, true, false, true≢false, inl, Option, None, Some, List, ℕ, zero, suc, ◌<◌, ◌≤◌, arith, zero-add, length, is_none}
use Rattle.std.specs.List.{fold}
use Rattle.std.proofs.lemmas.List.Sums.{fold-append}
use Rattle.table.specs.Mesh.{Cell, at, split, is_leaf}
use Rattle.table.proofs.Ids.{one_if, ids_to, ids-more}
use Rattle.coarsest.specs.declared.Engine.{Engine}
use Rattle.coarsest.specs.declared.Engine.TheVariants.{Balancing, Conforming}
use Rattle.coarsest.specs.Passes.{is_due, due, step, with_each, pass}
use Rattle.coarsest.specs.Sweep.{row, rows, sweep}
use Rattle.table.proofs.Meshes.{kids-kept}
use Rattle.coarsest.proofs.Least.{due-of}
use Rattle.coarsest.proofs.Sweep.{row-next, rows-next, Keeps, row_keeps, rows-keeps, rows_grown, rows-calm, Grown, grown-keeps, grown-least, grown-same}
use Rattle.coarsest.proofs.Loops.{row-skip, row_done, no-leaf-b}

-- what is no leaf of t is no leaf of u
abbrev Stays : List Cell → List Cell → Type 0
Stays t u = (i : ℕ) → is_leaf t i ≡ false → is_leaf u i ≡ false

still : (u : List Cell) (c : ℕ) → c < length u → (at u c).kids ≡ None → (i : ℕ) → is_leaf u i ≡ false → is_leaf (split u c) i ≡ false
still u c hc leaf i h = go (at u i).kids refl
  where
    go : (o : Option ℕ) → (at u i).kids ≡ o → is_leaf (split u c) i ≡ false
    go None e = absurd (true≢false (sym (ap is_none e) ∙ h))
    go (Some f) e = ap is_none (kids-kept u c hc leaf i f e)

stays-keeps : (k : ℕ) (t : List Cell) → Keeps k (Stays t)
stays-keeps k t u f c hf hc p d = λ i h. still u c hc (due-of k u f c d).coarse i (p i h)

module _ (e : Engine) (k : ℕ) where
  module _ (t : List Cell) (n : ℕ) where
    -- a's row, from a table u of the pass
    row-leaves : (u : List Cell) (a b : ℕ) → a < n → b ≤ n → n ≤ length u → Stays t u → with_each e k u a (ids_to (is_leaf t) b) ≡ row e k u a b
    unfolding with_each row
    row-leaves u a zero ha hb l s = unfold ids_to in refl
    row-leaves u a (suc b) ha hb l s =
        ap (with_each e k u a) (ids-more (is_leaf t) b)
        ∙ fold-append (λ v c. step e k v a c) u (ids_to (is_leaf t) b) (one_if (is_leaf t b) b)
        ∙ ap (λ (x : List Cell). with_each e k x a (one_if (is_leaf t b) b)) (row-leaves u a b ha (omega arith) l s)
        ∙ last (is_leaf t b) refl
      where
        last : (f : Bool) → is_leaf t b ≡ f → with_each e k (row e k u a b) a (one_if f b) ≡ row e k u a (suc b)
        last true h = sym (row-next e k u a b)
        last false h =
            sym (row-skip e k u a b (no-leaf-b e k (row e k u a b) a b (row_keeps e k n (Stays t) (stays-keeps k t) u a b ha (omega arith) l s b h)))

    -- each a of a list with each leaf of t below n
    abbrev turns : List Cell → List ℕ → List Cell
    turns u ids = fold (λ v a. with_each e k v a (ids_to (is_leaf t) n)) u ids

    -- a's turn: nothing where a is no leaf of t
    turn-leaves : (u : List Cell) (a : ℕ) → a < n → n ≤ length u → Stays t u → (f : Bool) → is_leaf t a ≡ f
        → turns u (one_if f a) ≡ row e k u a n
    unfolding row with_each
    turn-leaves u a ha l s true h = row-leaves u a n ha (omega arith) l s
    turn-leaves u a ha l s false h = sym (ap (row e k u a) (sym (zero-add n)) ∙ row_done e k u a 0 n (s a h))

    rows-leaves : (a : ℕ) → a ≤ n → n ≤ length t → turns t (ids_to (is_leaf t) a) ≡ rows e k n t a
    unfolding rows
    rows-leaves zero ha l = unfold ids_to in refl
    rows-leaves (suc a) ha l =
        let u = rows e k n t a in
        let g = grown-least t u (rows_grown e k n t a (omega arith) l) in
        ap (turns t) (ids-more (is_leaf t) a)
        ∙ fold-append (λ v i. with_each e k v i (ids_to (is_leaf t) n)) t (ids_to (is_leaf t) a) (one_if (is_leaf t a) a)
        ∙ ap (λ (x : List Cell). turns x (one_if (is_leaf t a) a)) (rows-leaves a (omega arith) l)
        ∙ turn-leaves u a ha (omega arith) (rows-keeps e k n (Stays t) (stays-keeps k t) t a (omega arith) l (λ i h. h)) (is_leaf t a) refl
        ∙ sym (rows-next e k n t a)

module _ (e : Engine) (k : ℕ) (t : List Cell) where
  pub sweep-pass : sweep e k t ≡ pass e k t
  unfolding sweep pass ids_to
  sweep-pass = sym (rows-leaves e k t (length t) (length t) (omega arith) (omega arith))

  pub pass-keeps : (P : List Cell → Type 0) → Keeps k P → P t → P (pass e k t)
  unfolding sweep
  pass-keeps P keep p = subst P sweep-pass (rows-keeps e k (length t) P keep t (length t) (omega arith) (omega arith) p)

  grown : Grown t (pass e k t)
  grown = pass-keeps (Grown t) (grown-keeps k t) (inl refl)

  pub pass-grown : length t ≤ length (pass e k t)
  pass-grown = grown-least t (pass e k t) grown

  -- a pass with no split
  pub pass_same : length (pass e k t) ≡ length t → pass e k t ≡ t
  pass_same l = grown-same t (pass e k t) grown l

rows_none : (e : Engine) (k : ℕ) (t : List Cell) → length (pass e k t) ≡ length t → (a b : ℕ) → a < length t → b < length t → is_due e k t a b ≡ false
unfolding sweep
rows_none e k t l a b ha hb = rows-calm e k (length t) t (length t) (omega arith) (omega arith) (ap length (sweep-pass e k t) ∙ l) a b ha hb

pub pass-calm : (e : Engine) (k : ℕ) (t : List Cell) → length (pass e k t) ≡ length t → (f c : ℕ) → f < length t → c < length t → due k t f c ≡ false
pass-calm Balancing k t l f c hf hc = rows_none Balancing k t l f c hf hc
pass-calm Conforming k t l f c hf hc = rows_none Conforming k t l c f hc hf
