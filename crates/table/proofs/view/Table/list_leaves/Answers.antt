use Rattle.std.proofs.Common.{◌≡◌, ℕ, ◌<◌, ◌≤◌, ◌+◌, refl, sym, ap, ◌∙◌, List, [], ◌∷◌, ◌++◌, length, get_or, drop, set, map, arith}
use Rattle.std.specs.List.{enumerate_from}
use Rattle.std.proofs.lemmas.Grind.{elements}
use Rattle.std.proofs.lemmas.Iterator.Consumers.{YieldsList-from_first, YieldsList-from_enumerate, YieldsList-turn, YieldsList-end}
use Rattle.std.proofs.lemmas.List.{length-map, map-append}
use Rattle.std.proofs.lemmas.List.FromFn.{length-enumerate_from, get_or-enumerate_from}
use Rattle.table.specs.Tables.{leaves, leaves_left}
use Rattle.table.proofs.view.Table.list_leaves.Goals as goal

abbrev ids : List (ℕ × ℕ) → List ℕ
ids = map (λ x. x.1)

ids-enumerate : (n : ℕ) (xs : List ℕ) → ids (enumerate_from n xs) ≡ xs
ids-enumerate n [] = refl
ids-enumerate n (x ∷ xs) = ap (λ l. x ∷ l) (ids-enumerate (n + 1) xs)

ids-paired : (ys : List (ℕ × ℕ)) → ids (map (λ p. (p.0, p.1)) ys) ≡ ids ys
ids-paired [] = refl
ids-paired (y ∷ ys) = ap (λ l. y.1 ∷ l) (ids-paired ys)

put_next : (ys zs : List ℕ) (x : ℕ) → length ys < length zs
    → set (ys ++ drop (length ys) zs) (length ys) x ≡ (ys ++ x ∷ []) ++ drop (length (ys ++ x ∷ [])) zs
put_next ys zs x h = grind (arith, elements)

-- a turn: the item stands at the place that it names, which is behind those so far
turned : (out start all : List ℕ) (ys : List (ℕ × ℕ)) (place id : ℕ)
    → out ≡ ids ys ++ drop (length ys) start → length all ≤ length start
    → (length ys < length (enumerate_from 0 all)) × ((place, id) ≡ get_or (enumerate_from 0 all) (length ys) (place, id))
    → set out place id ≡ ids (ys ++ (place, id) ∷ []) ++ drop (length (ys ++ (place, id) ∷ [])) start
turned out start all ys place id e room turn =
    let n = length-map ys (λ (x : ℕ × ℕ). x.1) in
    let inside : length ys < length all = omega (arith, length-enumerate_from 0 all) in
    let here : place ≡ length (ids ys) =
    ap (λ (p : ℕ × ℕ). p.0) (turn.1 ∙ get_or-enumerate_from 0 all (length ys) (place, id) inside) ∙ omega arith in
    let before = e ∙ ap (λ k. ids ys ++ drop k start) (sym n) in
    let front = map-append (λ (x : ℕ × ℕ). x.1) ys ((place, id) ∷ []) in
    let long = sym (length-map (ys ++ (place, id) ∷ []) (λ (x : ℕ × ℕ). x.1)) ∙ ap length front in
    (λ i. set (before i) (here i) id)
    ∙ put_next (ids ys) start id (omega arith)
    ∙ sym (λ i. front i ++ drop (long i) start)

pub loop-place-preserved : goal.loop-place-preserved
loop-place-preserved c =
    let l = c.loop-place in
    let all = leaves c.args.self.now in
    let road = YieldsList-from_enumerate (YieldsList-from_first (λ x. x) leaves_left all cc) cc in
    turned _ _ all _ _ _ l.invariant c.requires
    (YieldsList-turn road l.yielded _ l.yielded_by _ c.next.new.self (c.in-Some.place, c.in-Some.id) c.in-Some.is c.next.ensures.steps)

pub returns : goal.returns
returns c =
    let l = c.loop-place in
    let all = leaves c.args.self.now in
    let road = YieldsList-from_enumerate (YieldsList-from_first (λ x. x) leaves_left all cc) cc in
    let end = YieldsList-end road l.yielded _ l.yielded_by _ c.next.new.self c.in-None.is c.next.ensures.steps in
    let same : ids l.yielded ≡ all = sym (ids-paired l.yielded) ∙ ap ids end.0 ∙ ids-enumerate 0 all in
    let long : length l.yielded ≡ length all = end.1 ∙ length-enumerate_from 0 all in
    rw (l.invariant, same, long)
