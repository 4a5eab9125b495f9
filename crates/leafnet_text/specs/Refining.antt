-- Splitting leaf after leaf: the ids in order, each in the table that the one before it leaves.
use Rattle.std.specs.Prelude.{ℕ, ◌+◌, ◌*◌, if◌then◌else◌, List, [], ◌∷◌, ℤ}
use Rattle.refusals.specs.Said.{Said, accepted, is_accepted}
use Rattle.table.specs.declared.Head.{Head}
use Rattle.table.specs.Rows.{head_of, head_values, after_split}
use Rattle.table.specs.Refine.{refine_says, refined_row}

-- the head once n leaves are split
abbrev pub after_splits : Head → ℕ → Head
after_splits head n = head_of (head.count + 4 * n) (head.leaves + 3 * n) head.max_level

-- the new head, or the first refusal
unfoldable pub refine_all_says : List ℤ → Head → List ℕ → Said
refine_all_says row head [] = accepted (head_values head)
refine_all_says row head (id ∷ ids) =
    if is_accepted (refine_says row head id) then
    refine_all_says (refined_row row head id) (after_split head) ids
    else refine_says row head id

-- the table with the ids split that come before the first refusal
unfoldable pub refine_all_row : List ℤ → Head → List ℕ → List ℤ
refine_all_row row head [] = row
refine_all_row row head (id ∷ ids) =
    if is_accepted (refine_says row head id) then
    refine_all_row (refined_row row head id) (after_split head) ids
    else row
