use Rattle.std.proofs.Common.{sym, ap, ◌∙◌, List, ℕ, slice_get}
use Rattle.std.specs.Option.{option_copied}
use Rattle.std.proofs.lemmas.List.{take_rest}
use Rattle.sorted.proofs.Beginning.{none-left, none-begins, first_begins, handed}
use Rattle.sorted.proofs.runs.first.Goals as goal

pub returns-in_err-entry : goal.returns-in_err-entry
returns-in_err-entry g c =
    let row = c.args.row.now in
    let low = c.count_below.ensures in
    let h = rw (take_rest row c.count_below.result) at c.in_err-entry.ensures.value in
    ap option_copied c.from_residual.ensures
    ∙ sym (ap (λ (l : List (List ℕ)). slice_get l 0) (none-left row c.requires.sorted c.args.key.now _ low.bound low.parted (sym h)))

pub returns : goal.returns
returns g c =
    let row = c.args.row.now in
    let key = c.args.key.now in
    let low = c.count_below.ensures in
    let h = rw (take_rest row c.count_below.result) at c.in_ok-entry.ensures.value in
    let entry = c.in_ok-entry.entry in
    ap option_copied c.then_some.ensures
    ∙ handed c.starts_with.result entry _
    (λ t. sym (first_begins row c.requires.sorted key _ low.bound low.parted entry.now (sym h) (sym c.starts_with.ensures.value ∙ t)))
    (λ f. sym (ap (λ (l : List (List ℕ)). slice_get l 0) (none-begins row c.requires.sorted key _ low.bound low.parted entry.now (sym h) (sym c.starts_with.ensures.value ∙ f))))
