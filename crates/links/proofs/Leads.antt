-- How far a place in range is from another, and the nearest of a list, one by one. Assumes nothing.
use Rattle.std.proofs.Common.{◌≡◌, ℕ, zero, suc, ◌+◌, ◌<◌, ◌≤◌, Bool, true, false, cond, List, [], ◌∷◌, length, get_or, drop, fold, ℤ, pos, negsuc, ◌-ℤ◌, nat_abs, refl, sym, ap, ap₂, ◌∙◌, arith, IsTrue, None, Some, Float}
use lib.IntN.{sub_ℕ}
use lib.Ieee as Ieee
use Rattle.std.proofs.lemmas.Bool.Decides.{nat_tests}
use Rattle.std.proofs.lemmas.List.{at_drop_more, at_drop_all}
use Rattle.refusals.specs.Limits.{coordinate}
use Rattle.cell.specs.Ticks.{in_range}
use Rattle.net_rows.specs.declared.rows.Node.{Node}
use Rattle.net_rows.specs.Nets.{nth_node}
use Rattle.links.specs.Made.{distance, lead, nearest}

high : (n : ℕ) → IsTrue (in_range (pos n)) → n ≤ coordinate
unfolding in_range
high n t = grind (arith, nat_tests)

low : (n : ℕ) → IsTrue (in_range (negsuc n)) → n < coordinate
unfolding in_range
low n t = grind (arith, nat_tests)

small : (a b : ℕ) → a ≤ coordinate → b ≤ coordinate → nat_abs (sub_ℕ a b) ≤ coordinate + coordinate
small a b h k = grind (arith, nat_tests)

pub near : (a b : ℤ) → IsTrue (in_range a) → IsTrue (in_range b) → nat_abs (a -ℤ b) ≤ coordinate + coordinate
near (pos a) (pos zero) p q = let h = high a p in omega arith
near (pos a) (pos (suc b)) p q = small a (suc b) (high a p) (high (suc b) q)
near (pos a) (negsuc b) p q = let h = high a p in let k = low b q in omega arith
near (negsuc a) (pos zero) p q = let h = low a p in small 0 (suc a) (omega arith) (omega arith)
near (negsuc a) (pos (suc b)) p q = let h = low a p in let k = high (suc b) q in omega arith
near (negsuc a) (negsuc b) p q = let h = low a p in let k = low b q in small (suc b) (suc a) (omega arith) (omega arith)

-- ---- the nearest so far
module _ (nodes : List Node) (x y : ℤ) where
  abbrev leads : ℕ → ℕ → ℕ
  leads best i = lead nodes x y best i

  pub nearest-none : (ns : List ℕ) → length ns ≡ 0 → nearest nodes x y ns ≡ None
  unfolding nearest
  nearest-none [] h = refl
  nearest-none (i ∷ ns) h = absurd (omega arith)

  pub nearest-some : (ns : List ℕ) (i : ℕ) → Some i ≡ nearest nodes x y ns → 0 < length ns
  unfolding nearest
  nearest-some [] i e = absurd (cc e)
  nearest-some (j ∷ ns) i e = omega arith

  next : (ns : List ℕ) (best k first : ℕ) → k < length ns → fold leads best (drop k ns) ≡ first → fold leads (leads best (get_or ns k 0)) (drop (k + 1) ns) ≡ first
  next ns best k first h e = sym (at_drop_more (fold leads best) ns k 0 h) ∙ e

  -- the next of the list takes the lead, or does not
  module _ (ns : List ℕ) (best k i first : ℕ) (far least : Float) (h : k < length ns) (is : i ≡ get_or ns k 0) (f : far ≡ distance x y (nth_node nodes i)) (l : least ≡ distance x y (nth_node nodes best)) (e : fold leads best (drop k ns) ≡ first) where
    test : Ieee.lt far least ≡ Ieee.lt (distance x y (nth_node nodes i)) (distance x y (nth_node nodes best))
    test = ap₂ {C = Bool} Ieee.lt f l

    over : (j : ℕ) → leads best i ≡ j → fold leads j (drop (k + 1) ns) ≡ first
    over j q = ap (λ (z : ℕ). fold leads z (drop (k + 1) ns)) (sym q ∙ ap (leads best) is) ∙ next ns best k first h e

    pub next-leads : Ieee.lt far least ≡ true → fold leads i (drop (k + 1) ns) ≡ first
    next-leads t = over i (ap (λ (b : Bool). cond b i best) (sym test ∙ t))

    pub next-behind : Ieee.lt far least ≡ false → fold leads best (drop (k + 1) ns) ≡ first
    next-behind t = over best (ap (λ (b : Bool). cond b i best) (sym test ∙ t))

  pub nearest-all : (ns : List ℕ) (best k : ℕ) → 0 < length ns → length ns ≤ k → fold leads best (drop k ns) ≡ fold leads (get_or ns 0 0) (drop 1 ns) → nearest nodes x y ns ≡ Some best
  unfolding nearest
  nearest-all [] best k h g e = absurd (omega arith)
  nearest-all (i ∷ ns) best k h g e = ap Some (sym e ∙ at_drop_all (fold leads best) (i ∷ ns) k g)
