-- The nodes inside a footprint, one by one. Assumes nothing.
use Rattle.std.proofs.Common.{◌≡◌, ℕ, ◌+◌, ◌<◌, ◌≤◌, Bool, true, false, cond, List, [], ◌∷◌, ◌++◌, length, get_or, set, take, map, filter, refl, sym, ap, ◌∙◌, arith, IsTrue, ℤ, pos, negsuc, nat_abs, leb, length-append}
use Rattle.std.specs.Int.Signed.{le_z}
use Rattle.std.specs.Prelude.{int_lt, ◌&&◌}
use Rattle.std.proofs.lemmas.List.{append-nil, take_all, map_more, length-map, length-take-le, take-map, get_or-map}
use Rattle.std.proofs.lemmas.List.Elements.{All-get_or, filter-append}
use Rattle.std.proofs.lemmas.List.Sums.{length-filter, count_by-le-length}
use Rattle.refusals.specs.Said.{written}
use Rattle.net_rows.proofs.Written.{written_more}
use Rattle.net_rows.specs.declared.rows.Node.{Node}
use Rattle.net_rows.specs.Nets.{nth_node}
use Rattle.links.specs.declared.rows.Footprint.{Footprint}
use Rattle.links.specs.Made.{covers, has_area, inside}
use Rattle.links.specs.Lists.{AreKnown, numbers_of}

-- ---- whether it covers a node
-- a positive number is its size
pub at_most : (a : ℕ) (z : ℤ) → IsTrue (int_lt (pos 0) z) → leb a (nat_abs z) ≡ le_z (pos a) z
at_most a (pos n) h = refl
at_most a (negsuc n) h = absurd (cc h)

pub wide : (b c : Bool) → IsTrue (b && c) → IsTrue b
wide true c h = refl
wide false c h = absurd (cc h)

pub high : (b c : Bool) → IsTrue (b && c) → IsTrue c
high true c h = h
high false c h = absurd (cc h)

-- ---- row by row
pub none : (nodes : List Node) (f : Footprint) (ns : List ℕ) → has_area f ≡ false → inside nodes f ns ≡ []
unfolding inside
none nodes f ns h = ap (λ (b : Bool). cond b (filter (λ i. covers f (nth_node nodes i)) ns) []) h

abbrev test : List Node → Footprint → ℕ → Bool
test nodes f i = covers f (nth_node nodes i)

pub all : (nodes : List Node) (f : Footprint) (ns : List ℕ) → has_area f ≡ true → inside nodes f ns ≡ filter (test nodes f) ns
unfolding inside
all nodes f ns h = ap (λ (b : Bool). cond b (filter (λ i. covers f (nth_node nodes i)) ns) []) h

-- those of the first k candidates
pub record Kept (nodes : List Node) (f : Footprint) (candidates : List (List ℕ)) (old row : List ℕ) (count k : ℕ) : Type 0 where
  pub count-is : count ≡ length (filter (test nodes f) (take k (numbers_of candidates)))
  pub row-is : row ≡ written (filter (test nodes f) (take k (numbers_of candidates))) old

module _ (nodes : List Node) (f : Footprint) (candidates : List (List ℕ)) (old : List ℕ) where
  abbrev ns : List ℕ
  ns = numbers_of candidates

  pub kept-none : Kept nodes f candidates old old 0 0
  kept-none = record { count-is = refl; row-is = refl }

  module _ (row : List ℕ) (count k : ℕ) (K : Kept nodes f candidates old row count k) where
    pub kept-few : k ≤ length candidates → count ≤ k
    kept-few h =
        let c = K.count-is in
        let n = length-map candidates (λ e. get_or e 2 0) in
        let l = length-take-le k ns (omega arith) in
        let m = length-filter (test nodes f) (take k ns) in
        let o = count_by-le-length (test nodes f) (take k ns) in
        omega arith

    pub kept-all : length candidates ≤ k → (count ≡ length (filter (test nodes f) ns)) × (row ≡ written (filter (test nodes f) ns) old)
    kept-all h =
        let n = length-map candidates (λ e. get_or e 2 0) in
        let e = ap (filter (test nodes f)) (take_all k ns (omega arith)) in
        (K.count-is ∙ ap length e, K.row-is ∙ ap (λ (z : List ℕ). written z old) e)

    module _ (old_room : length candidates ≤ length old) (h : k < length candidates) where
      abbrev number : ℕ
      number = get_or (get_or candidates k []) 2 0

      made : (b : Bool) → test nodes f number ≡ b → filter (test nodes f) (take (k + 1) ns) ≡ filter (test nodes f) (take k ns) ++ cond b (number ∷ []) []
      made b t =
          ap (filter (test nodes f)) (map_take (k + 1) ∙ (map_more (λ e. get_or e 2 0) candidates k [] h ∙ ap (λ (l : List ℕ). l ++ number ∷ []) (sym (map_take k))))
          ∙ (filter-append (test nodes f) (take k ns) (number ∷ []) ∙ ap (λ (b : Bool). filter (test nodes f) (take k ns) ++ cond b (number ∷ []) []) t)
        where
          map_take : (j : ℕ) → take j ns ≡ map (λ e. get_or e 2 0) (take j candidates)
          map_take j = take-map (λ e. get_or e 2 0) j candidates

      pub kept-inside : test nodes f number ≡ true → Kept nodes f candidates old (set row count number) (count + 1) (k + 1)
      kept-inside t =
          let e = made true t in
          let c = K.count-is in
          let few = kept-few (omega arith) in
          record {
            count-is = omega (arith, ap length e, length-append (filter (test nodes f) (take k ns)) (number ∷ []));
            row-is = ap (λ (z : List ℕ). set z count number) K.row-is ∙ (written_more (filter (test nodes f) (take k ns)) old count number c (omega arith) ∙ ap (λ (z : List ℕ). written z old) (sym e));
          }

      pub kept-outside : test nodes f number ≡ false → Kept nodes f candidates old row count (k + 1)
      kept-outside t =
          let e = made false t ∙ append-nil (filter (test nodes f) (take k ns)) in
          record { count-is = K.count-is ∙ ap length (sym e); row-is = K.row-is ∙ ap (λ (z : List ℕ). written z old) (sym e) }

-- the number of an entry is that of a node
pub known_at : (nodes : List Node) (entries : List (List ℕ)) (k : ℕ) → AreKnown nodes entries → k < length entries → get_or (get_or entries k []) 2 0 < length nodes
known_at nodes entries k K h =
    let n = length-map entries (λ e. get_or e 2 0) in
    let a = All-get_or (λ i. i < length nodes) (numbers_of entries) k 0 (omega arith) K in
    let e = get_or-map (λ (e : List ℕ). get_or e 2 0) entries k [] 0 h in
    omega arith
