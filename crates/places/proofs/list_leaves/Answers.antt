use Rattle.std.proofs.Common.{◌≡◌, ◌<◌, ℕ, List, [], length, get_or, map, sym, ap, ◌∙◌, arith}
use lib.ListN.{get_or-append}
use Rattle.std.proofs.lemmas.List.{ext_get_or, length-map, get_or-map}
use Rattle.table.specs.Mesh.{at}
use Rattle.table.specs.Rows.{order_in}
use Rattle.table.specs.Tables.{cells}
use Rattle.refusals.specs.Said.{written}
use Rattle.table.proofs.Listed.{order_in-length}
use Rattle.places.specs.Leaves.{leaf_entry}
use Rattle.places.proofs.Board.{order_below}
use Rattle.places.proofs.list_leaves.Goals as goal

written_at : (ids old out : List ℕ) → out ≡ written ids old → (j : ℕ) → j < length ids → get_or out j 0 ≡ get_or ids j 0
written_at ids old out e j h = ap (λ l. get_or l j 0) e ∙ get_or-append ids _ 0 j h

pub leaf_entry-requires : goal.leaf_entry-requires
leaf_entry-requires c =
    let t = c.args.table.now in
    let n = order_in-length t.row.now t.head t.formed in
    let h : c.loop-v.v < length (order_in t.row.now t.head) = omega arith in
    omega (arith, written_at _ _ _ c.list_order.ensures c.loop-v.v h, order_below t.row.now t.head c.loop-v.v h)

pub returns : goal.returns
returns c =
    let t = c.args.table.now in
    let ids = order_in t.row.now t.head in
    let f = λ (id : ℕ). leaf_entry (at (cells t) id) in
    let n = order_in-length t.row.now t.head t.formed in
    let m = length-map ids f in
    ext_get_or [] _ (map f ids) (omega arith) (λ j h.
    let k : j < length ids = omega arith in
    c.loop-v.invariant j (omega arith) ∙ ap f (written_at ids _ _ c.list_order.ensures j k) ∙ sym (get_or-map f ids j 0 [] k))
