-- Cells after one split: what stands at each id, and that they keep the clauses on roots, children and parents. Assumes nothing.
use mathlib.Core.Logic.{by_cases}
use Rattle.std.proofs.Common.{◌≡◌, refl, sym, ap, subst, ◌∙◌, ◌≢◌, Option, None, Some, List, ℕ, suc, ◌+◌, ◌<◌, ◌≤◌, arith, length, get_or, set, length-append, length-set, get_or-append-add, get_or-set_same, get_or-set_other}
use native.Mathlib.Decide.{dec_lt, ℕ_discrete}
use lib.ListN.{get_or-append, get_or-eq_default}
use Rattle.cell.specs.Boxes.{Box, Quad, sw, se, nw, ne, num, quadrant}
use Rattle.table.specs.Mesh.{Cell, past, at, child, with_kids, brood, split}
use Rattle.table.specs.Formed.{Kid, Split, Born, Root, Formed}

pub not_some : {A : Type 0} (o : Option ℕ) (f : ℕ) → o ≡ None → o ≡ Some f → A
not_some o f p q = let z : ◌≡◌ {A = ℕ} 0 1 = cc in absurd (omega arith)

pub some_is : (o : Option ℕ) (f g : ℕ) → o ≡ Some f → o ≡ Some g → f ≡ g
some_is o f g p q = cc

pub num-below : (q : Quad) → num q < 4
num-below sw = omega arith
num-below se = omega arith
num-below nw = omega arith
num-below ne = omega arith

-- a split cell is in the table, and so is a root
pub beyond : (t : List Cell) (i : ℕ) → length t ≤ i → at t i ≡ past
beyond t i h = get_or-eq_default t past h

pub kids-in : (t : List Cell) (i f : ℕ) → (at t i).kids ≡ Some f → i < length t
kids-in t i f e = by_cases (dec_lt i (length t)) (λ h. h) (λ h. not_some (at t i).kids f (ap (λ (c : Cell). c.kids) (beyond t i (omega arith))) e)

pub root_in : (t : List Cell) (i : ℕ) → (at t i).parent ≡ None → i < length t
root_in t i e = by_cases (dec_lt i (length t)) (λ h. h) (λ h. not_some (at t i).parent 0 e (ap (λ (c : Cell). c.parent) (beyond t i (omega arith))))

-- what a table u keeps of the cell i of t
pub record Kept (t u : List Cell) (i : ℕ) : Type 0 where
  pub box : (at u i).box ≡ (at t i).box
  pub level : (at u i).level ≡ (at t i).level
  pub parent : (at u i).parent ≡ (at t i).parent
  pub polygon : (at u i).polygon ≡ (at t i).polygon

pub length-split : (t : List Cell) (c : ℕ) → length (split t c) ≡ length t + 4
unfolding split
length-split t c = simp (length-append, length-set)

module _ (t : List Cell) (c : ℕ) (inside : c < length t) where
  pub at_old : (i : ℕ) → i < length t → i ≢ c → at (split t c) i ≡ at t i
  unfolding split
  at_old i h other =
      get_or-append (set t c (with_kids (at t c) (length t))) (brood c (at t c)) past i (rw length-set h)
      ∙ get_or-set_other t c i (with_kids (at t c) (length t)) past other

  pub at_self : at (split t c) c ≡ with_kids (at t c) (length t)
  unfolding split
  at_self =
      get_or-append (set t c (with_kids (at t c) (length t))) (brood c (at t c)) past c (rw length-set inside)
      ∙ get_or-set_same t c (with_kids (at t c) (length t)) past inside

  in-brood : (q : Quad) → get_or (brood c (at t c)) (num q) past ≡ child c (at t c) q
  in-brood sw = refl
  in-brood se = refl
  in-brood nw = refl
  in-brood ne = refl

  pub at_new : (q : Quad) → at (split t c) (length t + num q) ≡ child c (at t c) q
  unfolding split
  at_new q =
      ap (λ (n : ℕ). get_or (split t c) (n + num q) past) (sym (length-set t c (with_kids (at t c) (length t))))
      ∙ get_or-append-add (set t c (with_kids (at t c) (length t))) (brood c (at t c)) (num q) past
      ∙ in-brood q

  pub data View (i : ℕ) : Type 0 where
    old : i < length t → i ≢ c → at (split t c) i ≡ at t i → View i
    self : i ≡ c → at (split t c) i ≡ with_kids (at t i) (length t) → View i
    new : (q : Quad) → i ≡ length t + num q → at (split t c) i ≡ child c (at t c) q → View i
    out : length t + 4 ≤ i → at (split t c) i ≡ past → View i

  view-self : (i : ℕ) → i ≡ c → View i
  view-self i e = self e (rw e at_self)

  view-new : (i : ℕ) (q : Quad) → i ≡ length t + num q → View i
  view-new i q e = new q e (rw e (at_new q))

  pub view : (i : ℕ) → View i
  view i =
      by_cases (dec_lt i (length t))
      (λ h. by_cases (ℕ_discrete i c) (λ e. view-self i e) (λ other. old h other (at_old i h other)))
      (λ h.
      by_cases (ℕ_discrete i (length t + 0)) (λ e. view-new i sw e) (λ n0.
      by_cases (ℕ_discrete i (length t + 1)) (λ e. view-new i se e) (λ n1.
      by_cases (ℕ_discrete i (length t + 2)) (λ e. view-new i nw e) (λ n2.
      by_cases (ℕ_discrete i (length t + 3)) (λ e. view-new i ne e) (λ n3.
      let far : length t + 4 ≤ i = omega arith in
      out far (beyond (split t c) i (rw length-split far)))))))

  pub kept : (i : ℕ) → i < length t → Kept t (split t c) i
  kept i h = go (view i)
    where
      go : View i → Kept t (split t c) i
      go (old l n e) = record { box = ap (λ (x : Cell). x.box) e; level = ap (λ (x : Cell). x.level) e; parent = ap (λ (x : Cell). x.parent) e; polygon = ap (λ (x : Cell). x.polygon) e }
      go (self n e) = record { box = ap (λ (x : Cell). x.box) e; level = ap (λ (x : Cell). x.level) e; parent = ap (λ (x : Cell). x.parent) e; polygon = ap (λ (x : Cell). x.polygon) e }
      go (new q n e) = absurd (omega arith)
      go (out n e) = absurd (omega arith)

  module _ (leaf : (at t c).kids ≡ None) where
    pub kids-kept : (i f : ℕ) → (at t i).kids ≡ Some f → (at (split t c) i).kids ≡ Some f
    kids-kept i f e = go (view i)
      where
        go : View i → (at (split t c) i).kids ≡ Some f
        go (old l n d) = ap (λ (x : Cell). x.kids) d ∙ e
        go (self n d) = not_some (at t i).kids f (rw n leaf) e
        go (new q n d) = let l = kids-in t i f e in absurd (omega arith)
        go (out n d) = let l = kids-in t i f e in absurd (omega arith)

    module _ (M : ℕ) (finer : (at t c).level < M) (formed : Formed M t) where
      kid-kept : (i : ℕ) (q : Quad) (j : ℕ) → i < length t → j < length t → Kid t i q j → Kid (split t c) i q j
      kid-kept i q j hi hj k =
          let a = kept i hi in
          let b = kept j hj in
          record {
            box = b.box ∙ k.box ∙ ap (λ (x : Box). quadrant x q) (sym a.box);
            level = b.level ∙ k.level ∙ ap suc (sym a.level);
            parent = b.parent ∙ k.parent;
            polygon = b.polygon ∙ k.polygon ∙ sym a.polygon;
          }

      split-kept : (i f : ℕ) → i < length t → Split M t i f → Split M (split t c) i f
      split-kept i f h s =
          record {
            above = s.above;
            below = rw length-split (let b = s.below in omega arith);
            finer = rw (kept i h).level s.finer;
            kid = λ q. kid-kept i q (f + num q) h (let b = s.below in let n = num-below q in omega arith) (s.kid q);
          }

      split-new : Split M (split t c) c (length t)
      split-new =
          record {
            above = inside;
            below = rw length-split (omega arith);
            finer = rw (kept c inside).level finer;
            kid = λ q.
                let e = at_new q in
                let a = kept c inside in
                record {
                  box = ap (λ (x : Cell). x.box) e ∙ ap (λ (x : Box). quadrant x q) (sym a.box);
                  level = ap (λ (x : Cell). x.level) e ∙ ap suc (sym a.level);
                  parent = ap (λ (x : Cell). x.parent) e;
                  polygon = ap (λ (x : Cell). x.polygon) e ∙ sym a.polygon;
                };
          }

      formed-split-field : (i f : ℕ) → (at (split t c) i).kids ≡ Some f → Split M (split t c) i f
      formed-split-field i f e = go (view i)
        where
          go : View i → Split M (split t c) i f
          go (old l n d) = split-kept i f l (formed.split i f (sym (ap (λ (x : Cell). x.kids) d) ∙ e))
          go (self n d) =
              let g : length t ≡ f = some_is (at (split t c) i).kids (length t) f (ap (λ (x : Cell). x.kids) d) e in
              subst (λ (x : ℕ). Split M (split t c) x f) (sym n) (subst (λ (x : ℕ). Split M (split t c) c x) g split-new)
          go (new q n d) = not_some (at (split t c) i).kids f (ap (λ (x : Cell). x.kids) d) e
          go (out n d) = not_some (at (split t c) i).kids f (ap (λ (x : Cell). x.kids) d) e

      born-kept : (i j : ℕ) → Born t i j → Born (split t c) i j
      born-kept i j b = record { first = b.first; place = b.place; split = kids-kept j b.first b.split; here = b.here }

      formed-born-field : (i j : ℕ) → i < length (split t c) → (at (split t c) i).parent ≡ Some j → Born (split t c) i j
      formed-born-field i j h e = go (view i)
        where
          go : View i → Born (split t c) i j
          go (old l n d) = born-kept i j (formed.born i j l (sym (ap (λ (x : Cell). x.parent) d) ∙ e))
          go (self n d) = born-kept i j (formed.born i j (omega arith) (sym (ap (λ (x : Cell). x.parent) d) ∙ e))
          go (new q n d) =
              let g : c ≡ j = some_is (at (split t c) i).parent c j (ap (λ (x : Cell). x.parent) d) e in
              record { first = length t; place = q; split = rw (← g) (ap (λ (x : Cell). x.kids) at_self); here = n }
          go (out n d) = absurd (omega (arith, length-split t c))

      root_kept : (i : ℕ) → i < length t → Root M (at t i) → Root M (at (split t c) i)
      root_kept i h r = let a = kept i h in record { level = a.level ∙ r.level; wide = rw a.box r.wide; high = rw a.box r.high }

      formed-root-field : (i : ℕ) → (at (split t c) i).parent ≡ None → Root M (at (split t c) i)
      formed-root-field i e = go (view i)
        where
          go : View i → Root M (at (split t c) i)
          go (old l n d) = root_kept i l (formed.root i (sym (ap (λ (x : Cell). x.parent) d) ∙ e))
          go (self n d) = root_kept i (omega arith) (formed.root i (sym (ap (λ (x : Cell). x.parent) d) ∙ e))
          go (new q n d) = not_some (at (split t c) i).parent c e (ap (λ (x : Cell). x.parent) d)
          go (out n d) = not_some (at (split t c) i).parent 0 e (ap (λ (x : Cell). x.parent) d)

      pub formed-split : Formed M (split t c)
      formed-split = record { split = formed-split-field; born = formed-born-field; root = formed-root-field }
