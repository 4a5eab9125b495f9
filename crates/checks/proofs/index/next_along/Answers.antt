use Rattle.std.proofs.Common.{sym}
use Rattle.std.proofs.lemmas.List.{take_rest}
use Rattle.checks.proofs.Along.{none-past, first-past, none-before, last-before}
use Rattle.checks.proofs.index.next_along.Goals as goal

pub returns-in_err-l-clause-none : goal.returns-in_err-l-clause-none
returns-in_err-l-clause-none c =
    let u = c.count_upto.ensures in
    let s = rw (take_rest c.args.row.now c.count_upto.result) at c.in_err-l.ensures.value in
    rw c.from_residual.ensures
    (none-past c.args.row.now c.requires c.told-row c.args.class c.args.from c.args.to c.key-key.result c.key-key.ensures _ u.bound u.parted c.if-from-to.true (sym s))

pub returns-in_err-l-2-clause-none : goal.returns-in_err-l-2-clause-none
returns-in_err-l-2-clause-none c =
    let u = c.count_below.ensures in
    rw c.from_residual-in_err-l-2.ensures
    (none-before c.args.row.now c.requires c.told-row c.args.class c.args.from c.args.to c.key-key.result c.key-key.ensures _ u.bound u.parted c.if-from-to.false (sym c.in_err-l-2.ensures.value))

pub returns-in_ok-l : goal.returns-in_ok-l
returns-in_ok-l c =
    let u = c.count_upto.ensures in
    let s = rw (take_rest c.args.row.now c.count_upto.result) at c.in_ok-l.ensures.value in
    let w = first-past c.args.row.now c.requires c.told-row c.args.class c.args.from c.args.to c.key-key.result c.key-key.ensures _ u.bound u.parted c.if-from-to.true c.in_ok-l.field-0.now (sym s) c.then_some.result c.then_some.ensures in
    record { found = w.0; none = w.1 }

pub returns-in_ok-l-2 : goal.returns-in_ok-l-2
returns-in_ok-l-2 c =
    let u = c.count_below.ensures in
    let w = last-before c.args.row.now c.requires c.told-row c.args.class c.args.from c.args.to c.key-key.result c.key-key.ensures _ u.bound u.parted c.if-from-to.false c.in_ok-l-2.field-0.now (sym c.in_ok-l-2.ensures.value) c.then_some-else-from-to.result c.then_some-else-from-to.ensures in
    record { found = w.0; none = w.1 }
