use Rattle.std.proofs.Common.{◌≡◌, sym, ◌∙◌, true, length, arith}
use Rattle.table.specs.Tables.{cells}
use Rattle.table.proofs.Cells.{length-table}
use Rattle.places.proofs.Within.{cell_within}
use Rattle.links.specs.Made.{has_area}
use Rattle.links.proofs.Steps.{step, begin, count-sum, count-zero}
use Rattle.links.proofs.Listing.{listed-none}
use Rattle.links.proofs.count.Corners.count_covered.Goals as goal

pub loop-id-init : goal.loop-id-init
loop-id-init c =
    let s = c.args.self.now in
    let v = c.args.via.now in
    record {
      below = rw (begin (cells s.table) s.polygons v.footprint v.bottom v.component) (count-zero c.args.counting);
      above = rw (begin (cells s.table) s.polygons v.footprint v.top v.component) (count-zero c.args.counting);
      few_below = omega arith;
      few_above = omega arith;
      listed = listed-none (cells s.table) c.of-near.result c.of-near.ensures.room c.of-near.ensures.none;
      window = rw c.of-near.ensures.window c.of.ensures;
    }

pub overflow_add-below : goal.overflow_add-below
overflow_add-below c =
    let t = c.args.self.now.table in
    let within = t.within in
    let slots = t.slots in
    let here = c.loop-id-test.true in
    let few = c.loop-id.invariant.few_below in
    let one = c.count_cell-bottom.ensures.few_below in
    record { fits = omega arith }

pub overflow_add-above : goal.overflow_add-above
overflow_add-above c =
    let t = c.args.self.now.table in
    let within = t.within in
    let slots = t.slots in
    let here = c.loop-id-test.true in
    let few = c.loop-id.invariant.few_above in
    let one = c.count_cell-bottom.ensures.few_above in
    record { fits = omega arith }

pub loop-id-preserved : goal.loop-id-preserved
loop-id-preserved c =
    let s = c.args.self.now in
    let t = s.table in
    let v = c.args.via.now in
    let l = c.loop-id in
    let i = l.invariant in
    let area = (cell_within t.row.now t.head t.formed l.id c.loop-id-test.true).area in
    let both = c.count_cell-bottom.ensures in
    let few_one = both.few_below in
    let few_other = both.few_above in
    let few_below = i.few_below in
    let few_above = i.few_above in
    record {
      below = rw (step (cells t) s.polygons v.footprint v.bottom v.component l.id area) (count-sum i.below both.bottom);
      above = rw (step (cells t) s.polygons v.footprint v.top v.component l.id area) (count-sum i.above both.top);
      few_below = omega arith;
      few_above = omega arith;
      listed = both.listed;
      window = rw both.same_window i.window;
    }

-- every cell is counted
ended : (c : goal.After-loop-id) → c.loop-id.id ≡ length (cells c.args.self.now.table)
ended c =
    let t = c.args.self.now.table in
    let end = c.loop-id-test.false in
    let most = c.loop-id.auto.id-end in
    omega (arith, length-table t.row.now t.head.count)

area : (c : goal.After-loop-id) → has_area c.args.via.now.footprint ≡ true
area c = sym c.has_area.ensures ∙ c.if-not-has_area.false

pub returns-clause-bottom : goal.returns-clause-bottom
returns-clause-bottom c = rw (area c, ← ended c) c.loop-id.invariant.below

pub returns-clause-top : goal.returns-clause-top
returns-clause-top c = rw (area c, ← ended c) c.loop-id.invariant.above
