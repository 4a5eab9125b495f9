-- The rules' "Boundary cases": what the definitions come to, and what the document says. proofs/Eight.antt holds the
-- two lists together. Rows, rings and rectangles are in the caller's ticks. P7's strips are as the code holds them,
-- 2^36 more.
use lib.Pointwise.{pointwise}
use Rattle.std.specs.Prelude.{ℕ, ◌≡◌, ◌+◌, ◌*◌, ◌-◌, Bool, List, [], ◌∷◌, ◌++◌, map, ℤ, pos, neg_ℤ}
use Rattle.std.specs.Prelude.{Float, replicate, not, filter, length}
use Rattle.std.specs.List.{range_with_len, flat_map}
use Rattle.std.specs.Ordering.{int_eq}
use Rattle.std.specs.Float.{binary64}
use Rattle.std.specs.Float.Ieee.{to_bits}
use Rattle.refusals.specs.Limits.{coordinate}
use Rattle.refusals.specs.Said.{Said, accepted, refused, bit}
use Rattle.cell.specs.declared.rectangles.Rect.{Rect}
use Rattle.cell.specs.Contact.{contact_says}
use Rattle.cell.specs.Cells.{no_cell}
use Rattle.table.specs.Mesh.{Cell, is_leaf, table, leaf_count}
use Rattle.table.specs.Rows.{head_of}
use Rattle.table.specs.Refine.{refined_row}
use Rattle.coarsest.specs.declared.Engine.TheVariants.{Balancing, Conforming}
use Rattle.even.specs.Even.{even_says, even_row}
use Rattle.strips.specs.declared.walk.Strip.{Strip}
use Rattle.strips.specs.Strips.{strips_of}
use Rattle.build.specs.Grid.{held_at}
use Rattle.floats.specs.Fractions.{float}
use Rattle.power.specs.Formulas.{slope_of, power_of}
use Rattle.cell.specs.Ticks.{metres_of}

-- an answer: 0 and the call's values, or a refusal's number and place
abbrev pub answer : Said → List ℕ
answer (accepted values) = 0 ∷ values
answer (refused number place) = number ∷ place ∷ []

-- what balance and conform say of a row of n cells, so many of them leaves, at max_level 2, and the row after balance
abbrev pub balance_says : List ℤ → ℕ → ℕ → List ℕ
balance_says t n leaves = answer (even_says Balancing t (head_of n leaves 2))

abbrev pub conform_says : List ℤ → ℕ → ℕ → List ℕ
conform_says t n leaves = answer (even_says Conforming t (head_of n leaves 2))

abbrev pub balanced : List ℤ → ℕ → ℕ → List ℤ
balanced t n leaves = even_row Balancing t (head_of n leaves 2)

-- the same numbers, as many of them
unfoldable pub same_row : List ℤ → List ℤ → Bool
same_row = pointwise int_eq

-- 1 where balance leaves the row as it was
abbrev pub untouched : List ℤ → ℕ → ℕ → ℕ
untouched t n leaves = bit (same_row (balanced t n leaves) t)

-- the eight numbers of a root
abbrev pub root : ℕ → ℕ → ℕ → ℕ → ℕ → List ℤ
root x0 y0 x1 y1 polygon = pos x0 ∷ pos y0 ∷ pos x1 ∷ pos y1 ∷ pos 0 ∷ pos no_cell ∷ pos no_cell ∷ pos polygon ∷ []

-- P2's input in a row of this many slots: "Roots (0,0,8,8), (8,0,16,8), max_level 2; split 0, then 3". It has 10 cells,
-- and 8 leaves
unfoldable pub lent : ℕ → List ℤ
lent slots =
    let roots = root 0 0 8 8 0 ++ root 8 0 16 8 1 ++ replicate ((slots - 2) * 8) (pos 0) in
    refined_row (refined_row roots (head_of 2 2 2) 0) (head_of 6 5 2) 3

-- the ids of the split cells
abbrev pub split_ids : List Cell → List ℕ
split_ids cells = filter (λ i. not (is_leaf cells i)) (range_with_len 0 (length cells))

abbrev pub rect : ℕ → ℕ → ℕ → ℕ → Rect
rect a b c d = record { x0 = pos a; y0 = pos b; x1 = pos c; y1 = pos d }

-- (-2,-4,9,0)
abbrev pub below : Rect
below = record { x0 = neg_ℤ (pos 2); y0 = neg_ℤ (pos 4); x1 = pos 9; y1 = pos 0 }

abbrev pub point : ℕ → ℕ → List ℤ
point x y = pos x ∷ pos y ∷ []

abbrev pub corners : List Strip → List ℕ
corners = flat_map (λ s. s.x0 ∷ s.y0 ∷ s.x1 ∷ s.y1 ∷ [])

-- "Cell 4 by 4, r_sheet 1, potentials 0,1,1,0"
abbrev pub power : Float
power = power_of (slope_of (float 0) (float 1) (float 1) (float 0) (metres_of 4) (metres_of 4)) (float 1)

-- p2 stands for `lent`: a constant list is too dear to compute, and a function's is cheap
unfoldable pub computed : (ℕ → List ℤ) → List (List ℕ)
computed p2 =
    balance_says [] 0 0
    ∷ balance_says (p2 42) 10 8
    ∷ split_ids (table (balanced (p2 42) 10 8) 14)
    ∷ (leaf_count (table (balanced (p2 42) 10 8) 14) ∷ [])
    ∷ conform_says (p2 42) 10 8
    ∷ balance_says (p2 13) 10 8
    ∷ balance_says (p2 14) 10 8
    ∷ (untouched (p2 13) 10 8 ∷ untouched (p2 14) 10 8 ∷ [])
    ∷ balance_says (p2 42) 10 9
    ∷ answer (contact_says (rect 0 0 4 4) (rect 4 4 8 8))
    ∷ answer (contact_says (rect 0 0 4 4) (rect 4 3 8 8))
    ∷ answer (contact_says (rect 4 3 8 8) (rect 0 0 4 4))
    ∷ answer (contact_says (rect 0 0 4 4) (rect 0 4 8 8))
    ∷ answer (contact_says (rect 0 0 4 4) below)
    ∷ (held_at 256 4 8 ∷ held_at 256 4 9 ∷ held_at 1 4 8 ∷ [])
    ∷ corners (strips_of (point 0 0 ∷ point 8 0 ∷ point 8 4 ∷ point 4 4 ∷ point 4 8 ∷ point 0 8 ∷ []))
    ∷ (to_bits binary64 power ∷ [])
    ∷ []

unfoldable pub expected : List (List ℕ)
expected =
    -- P1 "Empty table: balance answers 0." Accepted: 0 splits, 0 cells, 0 leaves, max_level 2
    (0 ∷ 0 ∷ 0 ∷ 0 ∷ 2 ∷ [])
    -- P2 "Balance splits only 1: 14 cells, 11 leaves." Accepted: 1 split, then the head; 0 and 3 were split before
    ∷ (0 ∷ 1 ∷ 14 ∷ 11 ∷ 2 ∷ [])
    ∷ (0 ∷ 1 ∷ 3 ∷ [])
    ∷ (11 ∷ [])
    -- P3 "Conform on P2's input: 8 splits, 42 cells."
    ∷ (0 ∷ 8 ∷ 42 ∷ 32 ∷ 2 ∷ [])
    -- P4 "P2's input with 13 slots: 6, table untouched; 14 slots: accepted."
    ∷ (6 ∷ 0 ∷ [])
    ∷ (0 ∷ 1 ∷ 14 ∷ 11 ∷ 2 ∷ [])
    ∷ (1 ∷ 0 ∷ [])
    -- P2's input with a stored number of leaves that is not its own: 7
    ∷ (7 ∷ 0 ∷ [])
    -- P5 "(0,0,4,4) and (4,4,8,8) don't share an edge; with (4,3,8,8) they do." By side and length: none; east 1
    ∷ (0 ∷ [])
    ∷ (0 ∷ 1 ∷ 1 ∷ [])
    -- and "the other way round: west 1. With (0,4,8,8): north 4. With (-2,-4,9,0): south 4."
    ∷ (0 ∷ 3 ∷ 1 ∷ [])
    ∷ (0 ∷ 2 ∷ 4 ∷ [])
    ∷ (0 ∷ 0 ∷ 4 ∷ [])
    -- P6 "w 8, c 4: nx 2; w 9: 3; cap 1: 1."
    ∷ (2 ∷ 3 ∷ 1 ∷ [])
    -- P7 "strips (0,0,8,4), (0,4,4,8)."
    ∷ map (λ n. coordinate + n) (0 ∷ 0 ∷ 8 ∷ 4 ∷ 0 ∷ 4 ∷ 4 ∷ 8 ∷ [])
    -- P8 "power 1.0."
    ∷ (0x3ff0_0000_0000_0000 ∷ [])
    ∷ []

-- the law: each case comes out as the rules say
abbrev pub BoundaryCases : Type 0
BoundaryCases = computed lent ≡ expected
