-- Balance and conform as the rules say them, over a table with no limit on room: one definition over the allowed
-- difference of levels. The rules: "Balance makes passes over the leaves of the pass's start in id order: for each a
-- still a leaf, each other b still a leaf, if a's level exceeds b's by two or more and they share an edge, b is split.
-- Conform: if a is coarser than b and they share an edge, a is split and the next a is taken. Both end after a pass
-- without a split."
use Rattle.std.specs.Prelude.{ℕ, zero, suc, ◌+◌, ◌*◌, ◌-◌, Bool, ◌&&◌, List, length, ◌==◌, nat_lt}
use Rattle.std.specs.Prelude.{filter, fold, sum_by, is_none, if◌then◌else◌}
use Rattle.std.specs.List.{range_with_len}
use Rattle.cell.specs.Boxes.{shares_edge}
use Rattle.table.specs.Mesh.{Cell, at, split, is_leaf, leaf_count}
use Rattle.coarsest.specs.declared.Engine.{Engine}
use Rattle.coarsest.specs.declared.Engine.TheVariants.{Balancing, Conforming}

-- the leaf C has to be split for the leaf F: F is finer by more than k levels, and they share an edge.
-- No cell is finer than itself, so this says "other" too
abbrev pub due_cells : ℕ → Cell → Cell → Bool
due_cells k F C = is_none F.kids && (is_none C.kids && (nat_lt (C.level + k) F.level && shares_edge F.box C.box))

unfoldable pub due : ℕ → List Cell → ℕ → ℕ → Bool
due k t f c = due_cells k (at t f) (at t c)

abbrev pub split_if : Bool → List Cell → ℕ → List Cell
split_if d t c = if d then split t c else t

-- one pair (a, b): balance splits b, conform a, and nothing is done unless both are still leaves. Once a is split no
-- pair of a is due, so that conform takes the next a
unfoldable pub step : Engine → ℕ → List Cell → ℕ → ℕ → List Cell
step Balancing k t a b = split_if (due k t a b) t b
step Conforming k t a b = split_if (due k t b a) t a

-- whether the pair makes a split
abbrev pub is_due : Engine → ℕ → List Cell → ℕ → ℕ → Bool
is_due Balancing k t a b = due k t a b
is_due Conforming k t a b = due k t b a

-- a with each b of a list, in order
unfoldable pub with_each : Engine → ℕ → List Cell → ℕ → List ℕ → List Cell
with_each e k t a bs = fold (λ u b. step e k u a b) t bs

-- the leaves in id order
abbrev pub leaves_of : List Cell → List ℕ
leaves_of t = filter (is_leaf t) (range_with_len 0 (length t))

-- "over the leaves of the pass's start in id order: for each a .., each other b .."
unfoldable pub pass : Engine → ℕ → List Cell → List Cell
pass e k t = fold (λ u a. with_each e k u a (leaves_of t)) t (leaves_of t)

-- passes until one makes no split, which leaves as many leaves as before, or n of them were made
unfoldable pub run : Engine → ℕ → ℕ → List Cell → List Cell
run e k zero t = t
run e k (suc n) t = if leaf_count (pass e k t) == leaf_count t then t else run e k n (pass e k t)

-- how many splits a leaf with n levels below it can still see, and all leaves of a table
abbrev pub splits_below : ℕ → ℕ
splits_below zero = 0
splits_below (suc n) = suc (4 * splits_below n)

abbrev pub left_if : Bool → ℕ → ℕ
left_if leaf n = if leaf then splits_below n else 0

abbrev pub left_of : ℕ → Cell → ℕ
left_of M c = left_if (is_none c.kids) (M - c.level)

abbrev pub splits_left : ℕ → List Cell → ℕ
splits_left M cs = sum_by (left_of M) cs

-- what the passes end in. There are never more passes with a split than splits left: proofs/Evened.antt shows that the
-- last pass made no split, and that no larger bound ends otherwise
unfoldable pub evened : Engine → ℕ → ℕ → List Cell → List Cell
evened e k M t = run e k (splits_left M t) t

-- by how many levels two leaves that share an edge may differ: b is split "if a's level exceeds b's by two or more",
-- and a "if a is coarser"
abbrev pub difference : Engine → ℕ
difference Balancing = 1
difference Conforming = 0

-- "exceeds by two or more": by more than 1
unfoldable pub balance : ℕ → List Cell → List Cell
balance M t = evened Balancing 1 M t

-- "coarser": by more than 0
unfoldable pub conform : ℕ → List Cell → List Cell
conform M t = evened Conforming 0 M t
