-- What is left to split makes of the table what all ids are to make of it.
use Rattle.std.proofs.Common.{drop, ◌≡◌}
use Rattle.leafnet_text.specs.Refining.{refine_all_says, refine_all_row}
use Rattle.leafnet_text.proofs.mesh.refine_all.Given as goal

abbrev pub invariant-loop-id : goal.invariant-loop-id
invariant-loop-id l =
    let left = drop l.id-index l.ids in
    record {
      says : refine_all_says l.row l.latest left ≡ refine_all_says l.initial.row l.initial.latest l.ids;
      row : refine_all_row l.row l.latest left ≡ refine_all_row l.initial.row l.initial.latest l.ids;
    }
