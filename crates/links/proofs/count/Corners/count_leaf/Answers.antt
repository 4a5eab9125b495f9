use Rattle.std.proofs.Common.{refl, sym, ◌∙◌, subst, ℕ, ◌+◌}
use Rattle.table.specs.Mesh.{at}
use Rattle.table.specs.Tables.{cells}
use Rattle.links.specs.Count.{IsCount}
use Rattle.links.proofs.Steps.{leaf-four, count-sum}
use Rattle.links.proofs.count.Corners.count_leaf.Goals as goal

pub returns-clause-counted : goal.returns-clause-counted
returns-clause-counted c =
    let s = c.args.self.now in
    let t = s.table in
    let v = c.args.via.now in
    let b = (at (cells t) c.args.id).box in
    let one = rw (c.node.ensures, c.west-west.ensures, c.south-south.ensures) at c.count_corner.ensures.counted in
    let two = rw (c.node-2.ensures, c.east-east.ensures, c.south-south.ensures) at c.count_corner-2.ensures.counted in
    let three = rw (c.node-3.ensures, c.east-east.ensures, c.north-north.ensures) at c.count_corner-3.ensures.counted in
    let four = rw (c.node-4.ensures, c.west-west.ensures, c.north-north.ensures) at c.count_corner-4.ensures.counted in
    subst (λ (n : ℕ). IsCount c.args.counting n (c.count_corner.result + c.count_corner-2.result + c.count_corner-3.result + c.count_corner-4.result))
    (sym (leaf-four (cells t) s.polygons v.footprint c.args.layer v.component c.args.id b (sym c.is_of.ensures ∙ c.if-not-is_of.false) refl))
    (count-sum (count-sum (count-sum one two) three) four)
