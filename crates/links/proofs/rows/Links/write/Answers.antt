use Rattle.std.proofs.Common.{◌∙◌, length, ap, sym, arith}
use Rattle.refusals.specs.Said.{written}
use Rattle.links.specs.Made.{links_of}
use Rattle.links.specs.Nets.{table_lists}
use Rattle.links.proofs.Begins.{rising, within, rows-are, a-cell-each}
use Rattle.links.proofs.Whole.{links-none}
use Rattle.links.proofs.rows.Links.write.Goals as goal

pub returns-then-are_none : goal.returns-then-are_none
returns-then-are_none c =
    let t = c.args.table.now in
    let net = c.args.net.now in
    let e = links-none net.nodes.now (table_lists t net.cells.now) c.args.self.now c.if-are_none.ensures in
    record { count = ap length e; row = ap (λ es. written es c.args.edges.now) e }

pub invariant_of-by_polygon-clause-rising : goal.invariant_of-by_polygon-clause-rising
invariant_of-by_polygon-clause-rising c =
    let t = c.args.table.now in
    rising t.row.now t.head.count _ c.write_starts.ensures c.args.net.now.cells.now (c.requires.a_cell_each ∙ sym (a-cell-each t))

pub invariant_of-by_polygon-clause-within : goal.invariant_of-by_polygon-clause-within
invariant_of-by_polygon-clause-within c =
    let t = c.args.table.now in
    within t.row.now t.head.count _ c.write_starts.ensures c.args.net.now.cells.now (c.requires.a_cell_each ∙ sym (a-cell-each t))

pub write_links-requires-clause-room : goal.write_links-requires-clause-room
write_links-requires-clause-room c =
    let t = c.args.table.now in
    let net = c.args.net.now in
    let e = rows-are t.row.now t.head.count _ c.write_starts.ensures net.cells.now (c.requires.a_cell_each ∙ sym (a-cell-each t)) in
    let n = ap (λ lists. length (links_of net.nodes.now lists c.args.self.now)) e in
    let r = c.requires.room in
    omega arith

pub returns : goal.returns
returns c =
    let t = c.args.table.now in
    let net = c.args.net.now in
    let e = rows-are t.row.now t.head.count _ c.write_starts.ensures net.cells.now (c.requires.a_cell_each ∙ sym (a-cell-each t)) in
    let w = c.write_links.ensures in
    record {
      count = w.count ∙ ap (λ lists. length (links_of net.nodes.now lists c.args.self.now)) e;
      row = w.row ∙ ap (λ lists. written (links_of net.nodes.now lists c.args.self.now) c.args.edges.now) e;
    }
