-- What build says of a board and a room, in the rules' order, and what it leaves in the table.
use Rattle.std.specs.Prelude.{ℕ, zero, suc, ◌-◌, ◌*◌, ◌/◌, ◌^◌, Bool, true, ◌&&◌, List, [], ◌++◌, ℤ, pos}
use Rattle.std.specs.Prelude.{Float, length, sum, replicate, Result, ◌==◌, if◌then◌else◌, nat_lt, nat_le}
use Rattle.std.specs.Prelude.{slice_index_or, slice_index}
use Rattle.std.specs.List.{list_all, range_with_len}
use Rattle.std.specs.Float.{nan}
use Rattle.refusals.specs.Limits.{widest_level, max_cap, max_cell, max_layers, max_polygons}
use Rattle.refusals.specs.declared.Refusal.{Refusal}
use Rattle.refusals.specs.Said.{Said, accepted, refused, said, if_accepted}
use Rattle.floats.specs.Fractions.{in_sheet}
use Rattle.table.specs.declared.Head.{Head}
use Rattle.table.specs.Formed.{holds_whole_slots}
use Rattle.table.specs.Rows.{head_of, head_values}
use Rattle.strips.specs.Said.{judged}
use Rattle.build.specs.declared.Settings.{Settings}
use Rattle.build.specs.Grid.{all_even, flat}
use Rattle.build.specs.Board.{Board, ring_at, polygons, unit, size_at, strips_at, roots_of}

-- an answer's values: the head
abbrev pub built_said : Result Head Refusal → Said
built_said = said head_values

-- the head of a table of n roots: each is a leaf
abbrev pub roots_head : Board → ℕ → Head
roots_head b n = head_of n n b.settings.max_level

-- 7: "the shape of the room or point counts that don't add up to the point row", or polygon rows of unequal length
unfoldable pub rows_shaped : List ℕ → List ℕ → List Float → List ℕ → List (List ℤ) → ℕ → Bool
rows_shaped layers components sheets counts points size =
    holds_whole_slots size
    && (length layers == length counts && (length components == length counts && length sheets == length counts))
    && sum counts == length points

-- 3: settings. Each layer of the list has 16 bits and is above the one before
abbrev pub layer_in : List (List ℕ) → ℕ → ℕ
layer_in l i = slice_index (slice_index_or l i []) 0

abbrev pub entry_in_range : List ℕ → Bool
entry_in_range e = nat_lt (slice_index e 0) (2 ^ 16) && nat_le (slice_index e 1) max_cell

abbrev pub entry_ok : List (List ℕ) → ℕ → Bool
entry_ok l i =
    entry_in_range (slice_index_or l i [])
    && (if i == 0 then true else nat_lt (layer_in l (i - 1)) (layer_in l i))

unfoldable pub list_ok : List (List ℕ) → Bool
list_ok l = nat_le (length l) max_layers && list_all (entry_ok l) (range_with_len 0 (length l))

abbrev pub numbers_ok : Settings → ℕ → Bool
numbers_ok s n =
    ((nat_le s.max_level widest_level && nat_le n max_polygons) && (nat_le 1 s.cap && nat_le s.cap max_cap))
    && (nat_le 1 s.target && nat_le s.target max_cell)

-- 3, place 0: "settings (the polygon count among them)"
abbrev pub settings_ok : Board → Bool
settings_ok b = numbers_ok b.settings (polygons b) && list_ok b.list

-- what is due of polygon p, by its sheet resistance and its ring, and then `otherwise`
abbrev pub judge_one : ℕ → Float → List (List ℤ) → Said → Said
judge_one p sheet ring otherwise = if in_sheet sheet then judged p ring otherwise else refused 3 p

-- "polygon by polygon 3 before 4": the n polygons from p on, and then `otherwise`
unfoldable pub judge_from : List Float → List ℕ → List (List ℤ) → ℕ → ℕ → Said → Said
judge_from rs cs ps p zero otherwise = otherwise
judge_from rs cs ps p (suc n) otherwise =
    judge_one p (slice_index_or rs p nan) (ring_at cs ps p) (judge_from rs cs ps (suc p) n otherwise)

-- "then 5", at the lowest polygon that has an uneven side
unfoldable pub even_from : Board → ℕ → ℕ → Said → Said
even_from b p zero otherwise = otherwise
even_from b p (suc n) otherwise =
    if all_even (unit b) b.settings.cap (size_at b p) (strips_at b p) then even_from b (suc p) n otherwise
    else refused 5 p

-- "then 6": more roots than slots. Otherwise the head of their table
abbrev pub room_for : Board → ℕ → ℕ → Said
room_for b slots n = if nat_lt slots n then refused 6 0 else accepted (head_values (roots_head b n))

unfoldable pub build_says : Board → List ℕ → List Float → ℕ → Said
build_says b components sheets size =
    if rows_shaped b.layers components sheets b.counts b.points size then
    (if settings_ok b then
    judge_from sheets b.counts b.points 0 (polygons b)
    (even_from b 0 (polygons b) (room_for b (size / 8) (length (roots_of b))))
    else refused 3 0)
    else refused 7 0

-- the roots, and zeros behind them
unfoldable pub filled : Board → ℕ → List ℤ
filled b size = flat (roots_of b) ++ replicate (size - length (roots_of b) * 8) (pos 0)

unfoldable pub build_leaves : Board → List ℕ → List Float → List ℤ → List ℤ
build_leaves b components sheets table =
    if_accepted (build_says b components sheets (length table)) (filled b (length table)) table
