use Rattle.std.proofs.Common.{None, Some}
use Rattle.weights.proofs.Hanging.{last_is}
use Rattle.weights.proofs.axes.last_at.Goals as goal

pub returns-in_err-number : goal.returns-in_err-number
returns-in_err-number c = λ ns L.
    let a = c.args in
    rw c.from_residual.ensures (last_is ns a.row.now L a.layer a.line a.along None c.in_err-number.ensures)

pub returns : goal.returns
returns c = λ ns L. (let a = c.args in last_is ns a.row.now L a.layer a.line a.along (Some c.in_ok-number.field-0.now) c.in_ok-number.ensures)
