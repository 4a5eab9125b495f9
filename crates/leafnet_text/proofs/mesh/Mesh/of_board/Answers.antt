-- The first refusal is said, or what the table says; and the mesh is what the steps make of the board.
use Rattle.std.proofs.Common.{◌≡◌, ◌∙◌, Err, rules}
use Rattle.refusals.specs.Said.{accepted, refusal}
use Rattle.table.specs.Rows.{head_values}
use Rattle.coarsest.specs.declared.Engine.TheVariants.{Balancing}
use Rattle.even.specs.Even.{even_says, even_row}
use Rattle.leafnet_text.specs.Held.{given_of}
use Rattle.leafnet_text.specs.Refining.{refine_all_says, refine_all_row}
use Rattle.leafnet_text.specs.Growing.{splits_say, split_row, balance_says}
use Rattle.leafnet_text.proofs.Refusing.{prints-refused}
use Rattle.leafnet_text.proofs.Steps.{mesh-refused, roots-refused, split-refused, split-is, balance-refused, grown}
use Rattle.leafnet_text.proofs.mesh.Mesh.of_board.Goals as goal

pub returns-in_err-roots : goal.returns-in_err-roots
returns-in_err-roots c =
    let g = given_of c.args.board.now in
    let x = c.in_err-roots in
    let same : c.from_residual.result ≡ Err x.field-0.0 = search rules in
    let said = roots-refused g x.field-0.0 x.ensures.says in
    record {
      head = search rules;
      row = search rules;
      splits = search rules;
      answer = prints-refused c.from_residual.result x.field-0.0 _ _ same said;
      says = prints-refused c.from_residual.result x.field-0.0 _ _ same (mesh-refused g x.field-0.0 said);
    }

pub returns-in_err-refined : goal.returns-in_err-refined
returns-in_err-refined c =
    let g = given_of c.args.board.now in
    let d = c.in_ok-roots in
    let x = c.in_err-refined in
    let same : c.from_residual-in_err-refined.result ≡ Err x.field-0.0 = search rules in
    let split : refusal x.field-0.0 ≡ splits_say g =
    x.ensures.says ∙ (λ i. refine_all_says (d.ensures.row_after i) (d.ensures.head i) (c.splits.ensures i)) in
    let said = split-refused g d.roots x.field-0.0 d.ensures.says split in
    record {
      head = search rules;
      row = search rules;
      splits = search rules;
      answer = prints-refused c.from_residual-in_err-refined.result x.field-0.0 _ _ same said;
      says = prints-refused c.from_residual-in_err-refined.result x.field-0.0 _ _ same (mesh-refused g x.field-0.0 said);
    }

pub returns-in_err-splits : goal.returns-in_err-splits
returns-in_err-splits c =
    let g = given_of c.args.board.now in
    let d = c.in_ok-roots in
    let r = c.in_ok-refined in
    let x = c.in_err-splits in
    let same : c.from_residual-in_err-splits.result ≡ Err x.field-0.0 = search rules in
    let split : accepted (head_values r.refined) ≡ splits_say g =
    r.ensures.says ∙ (λ i. refine_all_says (d.ensures.row_after i) (d.ensures.head i) (c.splits.ensures i)) in
    let row : c.refine_all.new.row ≡ split_row g =
    r.ensures.row_after ∙ (λ i. refine_all_row (d.ensures.row_after i) (d.ensures.head i) (c.splits.ensures i)) in
    let head = split-is g r.refined split in
    let even : refusal x.field-0.0 ≡ balance_says g = x.ensures.says ∙ (λ i. even_says Balancing (row i) (head i)) in
    let said = balance-refused g d.roots r.refined x.field-0.0 d.ensures.says split even in
    record {
      head = search rules;
      row = search rules;
      splits = search rules;
      answer = prints-refused c.from_residual-in_err-splits.result x.field-0.0 _ _ same said;
      says = prints-refused c.from_residual-in_err-splits.result x.field-0.0 _ _ same (mesh-refused g x.field-0.0 said);
    }

pub returns : goal.returns
returns c =
    let g = given_of c.args.board.now in
    let d = c.in_ok-roots in
    let r = c.in_ok-refined in
    let x = c.in_ok-splits in
    let split : accepted (head_values r.refined) ≡ splits_say g =
    r.ensures.says ∙ (λ i. refine_all_says (d.ensures.row_after i) (d.ensures.head i) (c.splits.ensures i)) in
    let row : c.refine_all.new.row ≡ split_row g =
    r.ensures.row_after ∙ (λ i. refine_all_row (d.ensures.row_after i) (d.ensures.head i) (c.splits.ensures i)) in
    let head = split-is g r.refined split in
    let mesh = grown g d.roots r.refined x.field-0.splits x.field-0.head c.balance.new.row
    d.ensures.says split (x.ensures.says ∙ (λ i. even_says Balancing (row i) (head i)))
    (x.ensures.row_after ∙ (λ i. even_row Balancing (row i) (head i))) in
    record { head = mesh.head; row = mesh.row; splits = mesh.splits; answer = mesh.answer; says = mesh.says }
