-- Once all is judged, the links are counted.
use Rattle.std.proofs.Common.{◌≡◌, ◌∙◌, sym, ap, ap₂, ◌∷◌, [], ℕ, ℤ, List, min, length, rules}
use Rattle.refusals.specs.Said.{accepted, refusal}
use Rattle.table.specs.declared.Head.{Head}
use Rattle.table.specs.Rows.{leaves_in}
use Rattle.links.specs.Count.{edge_room, most}
use Rattle.network.specs.Says.{rows_said, edge_rows_says, edge_count, link_count}
use Rattle.network.proofs.Judging.{judged-passed, judged-refused}
use Rattle.network.proofs.edge_rows.Goals as goal

pub returns-in_err-table : goal.returns-in_err-table
unfolding edge_rows_says
returns-in_err-table c =
    let a = c.args in
    let x = c.in_err-table in
    let same : rows_said c.from_residual.result ≡ refusal x.field-0.0 = search rules in
    same ∙ sym (judged-refused a.row.now a.head a.polygons.now a.sheets.now a.links.now _ x.field-0.0 x.ensures.answer)

pub returns : goal.returns
unfolding edge_rows_says edge_room
returns c =
    let a = c.args in
    let x = c.in_ok-table in
    let count = λ (row : List ℤ) (head : Head). edge_count (length (leaves_in row head)) (link_count row head a.polygons.now a.sheets.now a.links.now) in
    let says = λ (n : ℕ). accepted (min n most ∷ []) in
    ap (λ (n : ℕ). accepted (n ∷ [])) (c.edge_rows.ensures a.sheets.now)
    ∙ ap says (ap₂ count x.ensures.row x.ensures.head)
    ∙ sym (judged-passed a.row.now a.head a.polygons.now a.sheets.now a.links.now (says (count a.row.now a.head)) x.ensures.answer)
