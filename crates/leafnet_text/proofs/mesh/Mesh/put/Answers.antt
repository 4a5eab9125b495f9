-- The first refusal is printed, or the lines of the leaf order and the net.
use Rattle.std.proofs.Common.{◌≡◌, ◌∙◌, ap, Err, rules, sym, take}
use Rattle.refusals.specs.Said.{accepted}
use Rattle.leafnet_text.specs.Output.{lines_text}
use Rattle.leafnet_text.proofs.Refusing.{prints-refused}
use Rattle.leafnet_text.proofs.Tabled.{ordered, order-refused, order-accepted}
use Rattle.leafnet_text.proofs.mesh.Mesh.put.Goals as goal

pub returns-in_err-leaves-clause-says : goal.returns-in_err-leaves-clause-says
returns-in_err-leaves-clause-says c =
    let x = c.in_err-leaves in
    let same : c.from_residual.result ≡ Err x.field-0.0 = search rules in
    prints-refused c.from_residual.result x.field-0.0 _ _ same (order-refused _ _ _ _ x.field-0.0 x.ensures.answer)

pub returns-in_err-net-clause-says : goal.returns-in_err-net-clause-says
returns-in_err-net-clause-says c =
    let x = c.in_err-net in
    let same : c.from_residual-in_err-net.result ≡ Err x.field-0.0 = search rules in
    prints-refused c.from_residual-in_err-net.result x.field-0.0 _ _ same (order-accepted _ _ _ _ _ c.in_ok-leaves.ensures.answer ∙ x.ensures)

pub put_lines-requires-clause-slots : goal.put_lines-requires-clause-slots
put_lines-requires-clause-slots c =
    let x = c.in_ok-leaves in
    (ordered _ _ x.leaves c.leaf_order.new.out x.ensures.answer x.ensures.out_after).slots

pub returns-clause-says : goal.returns-clause-says
returns-clause-says c =
    let m = c.args.self.now in
    let x = c.in_ok-leaves in
    let n = c.in_ok-net.net in
    let order = (ordered _ _ x.leaves c.leaf_order.new.out x.ensures.answer x.ensures.out_after).front in
    order-accepted _ _ _ _ _ x.ensures.answer ∙ c.in_ok-net.ensures
    ∙ ap (λ ids. accepted (lines_text m.row m.head m.splits ids (take n.size.nodes n.nodes) (take n.size.edges n.edges))) (sym order)
    ∙ ap accepted (sym c.put_lines.ensures)
