use Rattle.std.proofs.Common.{◌-◌, sym, ap, ◌∙◌, List, ℕ, length, slice_get}
use Rattle.std.specs.Option.{option_copied}
use Rattle.sorted.proofs.Beginning.{none-front, last_begins, last-other, handed}
use Rattle.sorted.proofs.runs.last.Goals as goal

pub returns-in_err-entry : goal.returns-in_err-entry
returns-in_err-entry g c =
    let row = c.args.row.now in
    let u = c.count_upto.ensures in
    ap option_copied c.from_residual.ensures
    ∙ sym (ap (λ (l : List (List ℕ)). slice_get l (length l - 1)) (none-front row c.requires.sorted c.args.key.now _ u.bound u.parted (sym c.in_err-entry.ensures.value)))

pub returns : goal.returns
returns g c =
    let row = c.args.row.now in
    let key = c.args.key.now in
    let u = c.count_upto.ensures in
    let entry = c.in_ok-entry.entry in
    ap option_copied c.then_some.ensures
    ∙ handed c.starts_with.result entry _
    (λ t. sym (last_begins row c.requires.sorted key _ u.bound u.parted entry.now (sym c.in_ok-entry.ensures.value) (sym c.starts_with.ensures.value ∙ t)))
    (λ f. sym (ap (λ (l : List (List ℕ)). slice_get l (length l - 1)) (last-other row c.requires.sorted key _ u.bound u.parted entry.now (sym c.in_ok-entry.ensures.value) (sym c.starts_with.ensures.value ∙ f))))
