use Rattle.std.proofs.Common.{sym, ap, ap₂, ◌∙◌, true≢false, arith, ◌≡◌, ◌≤◌, ◌+◌, ◌*◌, ◌/◌, ℕ, ℤ, List, ◌∷◌, length, le-leb}
use Rattle.refusals.specs.Said.{accepted}
use borrow.Author.Tests.{lt-leb}
use Rattle.table.specs.declared.Head.{Head}
use Rattle.table.specs.Mesh.{leaf_count}
use Rattle.table.specs.Formed.{WellFormed}
use Rattle.table.specs.Rows.{IsTable, cells_in, head_values}
use Rattle.coarsest.specs.declared.Engine.{Engine}
use Rattle.coarsest.specs.Passes.{difference}
use Rattle.table.proofs.Cells.{length-table}
use Rattle.table.proofs.Wellformed.{formed-facts, facts-formed}
use Rattle.coarsest.proofs.Evened.{evened-leaves}
use Rattle.even.specs.Rows.{row_of}
use Rattle.even.specs.Even.{even_cells, even_splits, even_says, even_row}
use Rattle.even.proofs.Rowing.{row_is}
use Rattle.even.proofs.Ending.{ends-bad}
use Rattle.even.proofs.Held.{definitions-agree}
use Rattle.even.proofs.even_table.Goals as goal

pub returns-then-not-well_formed-clause-says : goal.returns-then-not-well_formed-clause-says
unfolding even_says
returns-then-not-well_formed-clause-says c =
    let no = sym c.well_formed-2.ensures ∙ c.if-not-well_formed.true in
    sym (rw no)

pub returns-then-not-well_formed-clause-row_after : goal.returns-then-not-well_formed-clause-row_after
unfolding even_row
returns-then-not-well_formed-clause-row_after c = rw (← returns-then-not-well_formed-clause-says c)

pub returns-then-not-well_formed-clause-coarsest : goal.returns-then-not-well_formed-clause-coarsest
returns-then-not-well_formed-clause-coarsest c =
    ends-bad _ _ _
    (λ w. true≢false (sym (facts-formed _ _ w) ∙ sym c.well_formed-2.ensures ∙ c.if-not-well_formed.true))

pub undo-requires : goal.undo-requires
undo-requires c =
    let w = formed-facts _ _ (sym c.well_formed-2.ensures ∙ c.if-not-well_formed.false) in
    omega (arith, w.count, c.even_out.auto.row)

pub returns-in-Err-clause-says : goal.returns-in-Err-clause-says
unfolding even_says
returns-in-Err-clause-says c =
    let yes = sym c.well_formed-2.ensures ∙ c.if-not-well_formed.false in
    let why = c.in-Err.ensures.refusal in
    sym (rw (yes, lt-leb _ _ c.in-Err.ensures.full, why))

pub returns-in-Err-clause-row_after : goal.returns-in-Err-clause-row_after
unfolding even_row
returns-in-Err-clause-row_after c =
    rw (← returns-in-Err-clause-says c, c.in-Err.ensures.refusal) (c.undo.ensures ∙ c.in-Err.ensures.undone)

pub returns-in-Err-clause-coarsest : goal.returns-in-Err-clause-coarsest
returns-in-Err-clause-coarsest c =
    rw (returns-in-Err-clause-says c, returns-in-Err-clause-row_after c)
    (definitions-agree c.args.engine c.args.head c.args.row.now)

-- where there was room: the row has as many cells and leaves as the passes end in
module _ (e : Engine) (head grown : Head) (old new : List ℤ) (formed : IsTable new grown)
    (cells : cells_in new grown ≡ even_cells e old head) where
  as_many : length (even_cells e old head) ≡ grown.count
  as_many = ap length (sym cells) ∙ length-table new grown.count

  room : length new ≡ length old → grown.count ≤ length old / 8
  room l = let w = formed-facts _ _ formed in omega (arith, w.count, ap (λ x. x / 8) l)

  as-leafy : leaf_count (even_cells e old head) ≡ grown.leaves
  as-leafy = ap leaf_count (sym cells) ∙ sym (formed-facts _ _ formed).leaves

  -- four cells and three leaves more a split
  grows : WellFormed old head
      → (n : ℕ) × (grown.count ≡ head.count + 4 * n) × (grown.leaves ≡ head.leaves + 3 * n)
  grows w =
      let a = evened-leaves e (difference e) head.max_level (cells_in old head) in
      let cells = a.cells in
      let leaves = a.leaves in
      let before = length-table old head.count in
      (a.splits, omega (arith, as_many, before, cells), omega (arith, as-leafy, w.leaves, leaves))

  -- the answer, by whichever growth its splits are counted
  says : (splits : ℕ) → splits ≡ even_splits e old head → IsTable old head → length new ≡ length old
      → grown.max_level ≡ head.max_level → accepted (splits ∷ head_values grown) ≡ even_says e old head
  unfolding even_says
  says splits so formed-so long deep =
      ap (λ (n : ℕ). accepted (n ∷ head_values grown)) so
      ∙ sym (rw (formed-so, as_many, as-leafy, le-leb _ _ (room long), ← deep))

pub overflow_sub-result : goal.overflow_sub-result
overflow_sub-result c =
    let g =
    grows c.args.engine c.args.head c.in-Ok.grown c.args.row.now c.even_out.new.row c.in-Ok.ensures.formed
    c.in-Ok.ensures.cells (formed-facts _ _ (sym c.well_formed-2.ensures ∙ c.if-not-well_formed.false)) in
    omega (arith, g.1, g.2)

pub returns-in-Ok-clause-says : goal.returns-in-Ok-clause-says
returns-in-Ok-clause-says c =
    let yes = sym c.well_formed-2.ensures ∙ c.if-not-well_formed.false in
    let g = c.in-Ok.ensures in
    let s =
    grows c.args.engine c.args.head c.in-Ok.grown c.args.row.now c.even_out.new.row g.formed g.cells
    (formed-facts _ _ yes) in
    let cells = as_many c.args.engine c.args.head c.in-Ok.grown c.args.row.now c.even_out.new.row g.formed g.cells in
    let leaves = as-leafy c.args.engine c.args.head c.in-Ok.grown c.args.row.now c.even_out.new.row g.formed g.cells in
    says c.args.engine c.args.head c.in-Ok.grown c.args.row.now c.even_out.new.row g.formed g.cells
    _ (omega (arith, s.1, s.2, cells, leaves)) yes c.even_out.auto.row g.max_level

pub returns-in-Ok-clause-row_after : goal.returns-in-Ok-clause-row_after
unfolding even_row
returns-in-Ok-clause-row_after c =
    let g = c.in-Ok.ensures in
    rw (← returns-in-Ok-clause-says c)
    (row_is _ _ (formed-facts _ _ g.formed) ∙ ap₂ row_of g.cells c.even_out.auto.row)

pub returns-in-Ok-clause-coarsest : goal.returns-in-Ok-clause-coarsest
returns-in-Ok-clause-coarsest c =
    rw (returns-in-Ok-clause-says c, returns-in-Ok-clause-row_after c)
    (definitions-agree c.args.engine c.args.head c.args.row.now)
