use Rattle.std.proofs.Common.{ℕ, ℤ, List, Float}
use Rattle.record.specs.Rows.{Rows, rows_of}
use Rattle.leafnet_text.proofs.Reading.{held}
use Rattle.leafnet_text.proofs.input.Rows.read.Goals as goal

-- the rows as reading left them
abbrev after : List (List ℕ) × (List (List ℕ) × (List Float × (List (List ℤ) × (List ℕ × Unit {0})))) → Rows
after r = rows_of r.0 r.1.0 r.1.1.0 r.1.1.1.0 r.1.1.1.1.0

pub invariant_of-result : goal.invariant_of-result
invariant_of-result c =
    let x = c.in_ok-read in
    let h = held c.args.bytes.now (λ i. (c.type_inv.bytes i).fits) x.read (after c.read.new.rows) x.ensures.number_and_place x.ensures.left in
    record { few_layers = h.few_layers; few_polygons = h.few_polygons; few_points = h.few_points; few_splits = h.few_splits; narrow = h.narrow }

pub returns : goal.returns
returns c =
    let x = c.in_ok-read in
    let h = held c.args.bytes.now (λ i. (c.type_inv.bytes i).fits) x.read (after c.read.new.rows) x.ensures.number_and_place x.ensures.left in
    record { says = h.says; board = h.board; refusal = tt }
