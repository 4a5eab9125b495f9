use Rattle.std.proofs.Common.{◌≡◌, ℕ, sym, ◌∙◌, true}
use Rattle.table.specs.Mesh.{at}
use Rattle.table.specs.Tables.{cells}
use Rattle.places.proofs.Within.{cell_within}
use Rattle.links.specs.Count.{leaf_adds}
use Rattle.links.specs.Windows.{misses}
use Rattle.links.proofs.Near.{adds-none}
use Rattle.links.proofs.Steps.{count-zero}
use Rattle.links.proofs.Listing.{listed-add}
use Rattle.links.proofs.count.Corners.count_cell.Goals as goal

none : (c : goal.Then-is_outside) (layer : ℕ) → leaf_adds (cells c.args.self.now.table) c.args.self.now.polygons c.args.via.now.footprint layer c.args.via.now.component c.args.id ≡ 0
none c layer =
    let s = c.args.self.now in
    let t = s.table in
    let v = c.args.via.now in
    let id = c.args.id in
    let there = c.requires.there in
    let outside : misses c.args.near.now.window (at (cells t) id).box ≡ true = sym c.is_outside.ensures ∙ c.if-is_outside.true in
    adds-none v.footprint c.args.near.now.window c.requires.window (cells t) s.polygons id (cell_within t.row.now t.head t.formed id there) outside layer v.component

pub returns-then-is_outside-clause-bottom : goal.returns-then-is_outside-clause-bottom
returns-then-is_outside-clause-bottom c = rw (none c c.args.via.now.bottom) (count-zero c.args.counting)

pub returns-then-is_outside-clause-top : goal.returns-then-is_outside-clause-top
returns-then-is_outside-clause-top c = rw (none c c.args.via.now.top) (count-zero c.args.counting)

pub returns-clause-listed : goal.returns-clause-listed
returns-clause-listed c =
    let t = c.args.self.now.table in
    let a = c.add.ensures in
    listed-add (cells t) c.args.near.now c.add.new.self c.args.id c.requires.listed a.listed a.window
