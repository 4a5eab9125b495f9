use Rattle.leafnet_text.proofs.Worked.{worked, worked-refusal, worked-ranges}
use Rattle.leafnet_text.proofs.laws.lines_are_worked.Goals as goal

pub returns-clause-board : goal.returns-clause-board
returns-clause-board c = worked

pub returns-clause-refusal : goal.returns-clause-refusal
returns-clause-refusal c = worked-refusal

pub returns-clause-ranges : goal.returns-clause-ranges
returns-clause-ranges c = worked-ranges
