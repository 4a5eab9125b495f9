-- Too long, refused by a step, or printed.
use Rattle.std.proofs.Common.{◌≡◌, ◌∙◌, Err, sym, subst, rules}
use Rattle.refusals.specs.Said.{accepted}
use Rattle.leafnet_text.specs.Output.{Prints}
use Rattle.leafnet_text.proofs.Refusing.{prints-refused, too_long, short-enough}
use Rattle.leafnet_text.proofs.put_accepted.Goals as goal

pub returns-then-record-gt-INPUT-clause-says : goal.returns-then-record-gt-INPUT-clause-says
returns-then-record-gt-INPUT-clause-says c = too_long c.args.record.now c.if-record-gt-INPUT.true

pub returns-in_err-board-clause-says : goal.returns-in_err-board-clause-says
returns-in_err-board-clause-says c =
    let x = c.in_err-board in
    let same : c.from_residual.result ≡ Err x.field-0.0 = search rules in
    prints-refused c.from_residual.result x.field-0.0 _ _ same (short-enough c.args.record.now c.if-record-gt-INPUT.false ∙ x.ensures.says)

pub returns-in_err-mesh-clause-says : goal.returns-in_err-mesh-clause-says
returns-in_err-mesh-clause-says c =
    let x = c.in_err-mesh in
    let same : c.from_residual-in_err-mesh.result ≡ Err x.field-0.0 = search rules in
    prints-refused c.from_residual-in_err-mesh.result x.field-0.0 _ _ same
    (short-enough c.args.record.now c.if-record-gt-INPUT.false ∙ c.in_ok-board.ensures.says ∙ x.ensures.says)

pub returns-clause-says : goal.returns-clause-says
returns-clause-says c =
    subst (Prints c.put.result (λ _. accepted c.put.new.text.bytes))
    (sym (short-enough c.args.record.now c.if-record-gt-INPUT.false ∙ c.in_ok-board.ensures.says ∙ c.in_ok-mesh.ensures.says)) c.put.ensures.says
