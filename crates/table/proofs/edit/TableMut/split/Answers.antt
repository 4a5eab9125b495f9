use Rattle.std.proofs.Common.{arith, ap, ◌∙◌, is_none}
use Rattle.table.specs.Mesh.{table}
use Rattle.table.proofs.Refining.{refinable, held-below, refined-formed, refined-cells}
use Rattle.table.proofs.edit.TableMut.split.Goals as goal

pub split_cell-requires : goal.split_cell-requires
split_cell-requires c =
    let s = c.args.self.now in
    let r = c.requires in
    record {
      inside = r.inside;
      room = omega arith;
      finer = held-below _ _ _ (refinable s.row.now s.head c.args.id s.formed r.inside (ap is_none r.leaf) r.finer r.room);
    }

pub invariant_of-self : goal.invariant_of-self
invariant_of-self c =
    let s = c.args.self.now in
    let r = c.requires in
    let grown = c.after_split-self.ensures in
    record {
      within = rw grown (omega arith);
      slots = omega arith;
      range = rw grown s.range;
      few = rw grown (omega arith);
      formed = rw (c.split_cell.ensures, grown)
          (refined-formed _ _ _ (refinable s.row.now s.head c.args.id s.formed r.inside (ap is_none r.leaf) r.finer r.room));
    }

pub returns-clause-cells : goal.returns-clause-cells
returns-clause-cells c =
    let s = c.args.self.now in
    let r = c.requires in
    (λ i. table (c.split_cell.ensures i) ((c.after_split-self.ensures i).count))
    ∙ refined-cells _ _ _ (refinable s.row.now s.head c.args.id s.formed r.inside (ap is_none r.leaf) r.finer r.room)
