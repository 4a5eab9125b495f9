-- The table of a board, step by step: its roots, the record's splits, balance. Each step goes on from what the one
-- before it leaves.
use Rattle.std.specs.Prelude.{ℕ, List, length, ℤ}
use Rattle.refusals.specs.Said.{Said}
use Rattle.table.specs.declared.Head.{Head}
use Rattle.build.specs.Board.{roots_of}
use Rattle.build.specs.Says as Build
use Rattle.build.specs.Says.{build_says, filled}
use Rattle.coarsest.specs.declared.Engine.TheVariants.{Balancing}
use Rattle.even.specs.Even.{even_says, even_row, even_head, even_splits}
use Rattle.leafnet_text.specs.Rooms.{table_room}
use Rattle.leafnet_text.specs.Boards.{Given}
use Rattle.leafnet_text.specs.Refining.{after_splits, refine_all_says, refine_all_row}

-- the roots
abbrev pub roots_say : Given → Said
roots_say g = build_says g.board g.components g.sheets table_room

abbrev pub roots_row : Given → List ℤ
roots_row g = filled g.board table_room

abbrev pub roots_head : Given → Head
roots_head g = Build.roots_head g.board (length (roots_of g.board))

-- the record's splits
abbrev pub splits_say : Given → Said
splits_say g = refine_all_says (roots_row g) (roots_head g) g.splits

abbrev pub split_row : Given → List ℤ
split_row g = refine_all_row (roots_row g) (roots_head g) g.splits

abbrev pub split_head : Given → Head
split_head g = after_splits (roots_head g) (length g.splits)

-- balance, and how many splits it made
abbrev pub balance_says : Given → Said
balance_says g = even_says Balancing (split_row g) (split_head g)

abbrev pub balanced_row : Given → List ℤ
balanced_row g = even_row Balancing (split_row g) (split_head g)

abbrev pub balanced_head : Given → Head
balanced_head g = even_head Balancing (split_row g) (split_head g)

abbrev pub balance_splits : Given → ℕ
balance_splits g = even_splits Balancing (split_row g) (split_head g)
