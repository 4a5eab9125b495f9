use Rattle.std.proofs.Common.{◌≡◌, ◌≢◌, sym, ap, ◌∙◌, List, ℕ, ◌+◌, ◌<◌, ◌≤◌, ◌++◌, arith, add-one, length, get_or, set, map, take, drop}
use Rattle.std.proofs.lemmas.List.{get_or_default, get_or-map, get_or-take, length-map, length-take-le, places}
use lib.ListN.{get_or-append}
use Rattle.std.proofs.lemmas.List.Edits.{map_over_more}
use Rattle.net.specs.First.{rank_in}
use Rattle.net.proofs.Numbers.{in-new, in-old}
use Rattle.places.proofs.nodes.number_firsts.Goals.{then-first-i, else-first-i}
use Rattle.places.proofs.nodes.number_firsts.Goals as goal

module _ (f : ℕ → ℕ) (fs row : List ℕ) (i : ℕ) (inside : i < length fs) (is : row ≡ map f (take i fs) ++ drop i fs) where
  size : length (map f (take i fs)) ≡ i
  size = length-map (take i fs) f ∙ length-take-le i fs (omega arith)

  left : get_or row i 0 ≡ get_or fs i 0
  left = let s = size in rw is (grind (arith, places))

  done : (j : ℕ) → j < i → get_or row j 0 ≡ f (get_or fs j 0)
  done j h =
      let s = size in
      rw is (get_or-append (map f (take i fs)) (drop i fs) 0 j (omega arith))
      ∙ get_or-map f (take i fs) j 0 0 (omega (arith, length-take-le i fs (omega arith)))
      ∙ ap f (get_or-take i fs j 0 h)

  more : (v : ℕ) → length row ≡ length fs → v ≡ f (get_or fs i 0) → set row i v ≡ map f (take (i + 1) fs) ++ drop (i + 1) fs
  more v n e = ap (set row i) (e ∙ ap f (sym left)) ∙ map_over_more f fs row i (get_or row i 0) inside is (get_or_default row i 0 (get_or row i 0) (omega arith))

pub loop-i-preserved : goal.loop-i-preserved
loop-i-preserved c =
    let fs = c.args.row.now in
    let row = c.loop-i.row in
    let i = c.loop-i.i in
    let I = c.loop-i.invariant in
    let l = c.loop-i.auto.row in
    let h = c.loop-i-test.true in
    let low = c.requires.low i h in
    let here = left (rank_in fs) fs row i h I.row in
    let k = I.counted in
    let f = I.few in
    elim c.if-first-i.branch [
      | then-first-i w ↦
          let new : get_or fs i 0 ≡ i = sym here ∙ w.if-first-i.true in
          let n = w.count-is in
          record {
            counted = omega (arith, in-new fs i new, ap (rank_in fs) (add-one i));
            few = omega arith;
            row = w.row-is ∙ more (rank_in fs) fs row i h I.row c.loop-i.count l (k ∙ ap (rank_in fs) (sym new));
          }
      | else-first-i w ↦
          let old : get_or fs i 0 ≢ i = λ e. w.if-first-i.false (here ∙ e) in
          let n = w.count-is in
          let v : get_or row (get_or row i 0) 0 ≡ rank_in fs (get_or fs i 0) =
          ap (λ j. get_or row j 0) here ∙ done (rank_in fs) fs row i h I.row (get_or fs i 0) (below low old) ∙ ap (rank_in fs) (c.requires.own i h) in
          record {
            counted = omega (arith, in-old fs i old, ap (rank_in fs) (add-one i));
            few = omega arith;
            row = w.row-is ∙ more (rank_in fs) fs row i h I.row (get_or row (get_or row i 0) 0) l v;
          }
    ]
  where
    below : {a b : ℕ} → a ≤ b → (a ≡ b → ⊥) → a < b
    below l n = omega arith
