-- One small board on which both facts of Later.antt are at work, so that what they ask for can be met: each call is
-- accepted, and the list has a cell that the first evening splits.
use Rattle.std.specs.Prelude.{ℕ, ◌+◌, ◌≡◌, Bool, true, false, List, [], ◌∷◌, ◌++◌, ℤ, pos, map, fold}
use Rattle.std.specs.Prelude.{replicate, None, Some, if◌then◌else◌}
use Rattle.std.specs.List.{flat_map}
use Rattle.std.specs.Option.{option_map_or}
use Rattle.refusals.specs.Said.{is_accepted}
use Rattle.cell.specs.Boxes.{se}
use Rattle.cell.specs.Cells.{no_cell}
use Rattle.cell.specs.Ticks.{off}
use Rattle.table.specs.Rows.{head_of, after_split}
use Rattle.table.specs.Refine.{refine_says, refined_row}
use Rattle.coarsest.specs.declared.Engine.{Engine}
use Rattle.coarsest.specs.declared.Engine.TheVariants.{Balancing, Conforming}
use Rattle.coarsest.specs.Names.{Route, ◌⊆◌, find, splitting}
use Rattle.coarsest.specs.InTurn.{Name, Placed, leaf_named}
use Rattle.coarsest.specs.Laws.{SameRoots}
use Rattle.even.specs.Later.{Lent, cells_of, Evened, RefinedInTurn, evened_of}

-- what refine leaves, accepted or not
abbrev pub refined_if : Bool → Lent → ℕ → Lent
refined_if accepted t id =
    if accepted then record { row = refined_row t.row t.head id; head = after_split t.head } else t

abbrev pub refined_of : Lent → Name → Lent
refined_of t name =
    option_map_or (λ id. refined_if (is_accepted (refine_says t.row t.head id)) t id)
    (find (cells_of t) name.root name.route) t

abbrev pub refined_in_turn : Lent → List Name → Lent
refined_in_turn t names = fold refined_of t names

-- four roots of 8 ticks, at x = 0, 8 and 16 beside each other, and at x = 32 apart; max_level 2, and 68 slots
abbrev pub root_at : ℕ → List ℤ
root_at x = pos x ∷ pos 0 ∷ pos (x + 8) ∷ pos 8 ∷ pos 0 ∷ pos no_cell ∷ pos no_cell ∷ pos 0 ∷ []

unfoldable pub roots : Lent
roots = record {
  row = flat_map root_at (0 ∷ 8 ∷ 16 ∷ 32 ∷ []) ++ replicate 512 (pos 0);
  head = head_of 4 4 2;
}

abbrev pub named : ℕ → Route → Name
named r p = record { root = r; route = p }

-- the western root is split, and its south-eastern quadrant
unfoldable pub start : Lent
start = refined_in_turn roots (named 0 [] ∷ named 0 (se ∷ []) ∷ [])

-- the marks to come: the root beside it, that one's south-eastern quadrant, and the root apart
unfoldable pub marks : List Name
marks = named 1 [] ∷ named 1 (se ∷ []) ∷ named 3 [] ∷ []

unfoldable pub evened : Engine → Lent
evened e = evened_of e start

unfoldable pub split_later : Engine → Lent
split_later e = refined_in_turn (evened e) marks

unfoldable pub in_parts : Engine → Lent
in_parts e = evened_of e (split_later e)

unfoldable pub split_first : Lent
split_first = refined_in_turn start marks

unfoldable pub at_once : Engine → Lent
at_once e = evened_of e split_first

-- cells at each step
abbrev pub counts : Engine → List ℕ
counts e = map (λ t. t.head.count) (start ∷ evened e ∷ split_later e ∷ in_parts e ∷ split_first ∷ at_once e ∷ [])

-- Balance splits the second root at first. Of the list that one is passed over then, and two cells are split; the third
-- root follows. Conform splits the three roots to the end, and of the list the root apart is left
abbrev pub counted : Engine → List ℕ
counted Balancing = 12 ∷ 16 ∷ 24 ∷ 28 ∷ 24 ∷ 28 ∷ []
counted Conforming = 12 ∷ 64 ∷ 68 ∷ 68 ∷ 24 ∷ 68 ∷ []

abbrev pub corner : Placed
corner = record {
  box = record { x0 = off (pos 14); y0 = off (pos 0); x1 = off (pos 16); y1 = off (pos 2) };
  level = 2;
  polygon = 0;
}

-- every hypothesis of the two facts holds of the board, and each fact says something of it
pub record AtWork (e : Engine) : Type 0 where
  pub same_roots : SameRoots (cells_of start) (cells_of split_first)
  pub more_splits : splitting (cells_of start) ⊆ splitting (cells_of split_first)
  pub evened_first : Evened e start (evened e)
  pub then_split : RefinedInTurn marks (evened e) (split_later e)
  pub evened_again : Evened e (split_later e) (in_parts e)
  pub all_split : RefinedInTurn marks start split_first
  pub evened_once : Evened e split_first (at_once e)
  -- the list's first cell, which the evening splits
  pub possible : splitting (cells_of start) 1 [] ≡ false
  pub passed_over : splitting (cells_of (evened e)) 1 [] ≡ true
  pub cells : counts e ≡ counted e
  -- at the end the south-eastern quadrant of its south-eastern quadrant is a leaf, and it is none itself
  pub leaf : leaf_named (cells_of (in_parts e)) 1 (se ∷ se ∷ []) ≡ Some corner
  pub no_leaf : leaf_named (cells_of (in_parts e)) 1 [] ≡ None

abbrev pub FactsAtWork : Type 0
FactsAtWork = (e : Engine) → AtWork e
