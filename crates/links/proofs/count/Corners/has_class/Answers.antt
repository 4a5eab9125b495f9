use Rattle.std.proofs.Common.{sym, ◌∙◌, arith}
use Rattle.table.specs.Tables.{cells}
use Rattle.links.proofs.Marks.{class-some, class-none}
use Rattle.links.proofs.count.Corners.has_class.Goals as goal

pub returns-then-has_leaf : goal.returns-then-has_leaf
returns-then-has_leaf c =
    let s = c.args.self.now in
    sym (class-some (cells s.table) s.polygons s.known c.args.layer c.args.component c.loop-polygon.polygon (sym c.is_class.ensures ∙ c.if-is_class.true) (sym c.has_leaf.ensures ∙ c.if-has_leaf.true))

pub returns : goal.returns
returns c =
    let s = c.args.self.now in
    let end = c.loop-polygon-test.false in
    sym (class-none (cells s.table) s.polygons s.known c.args.layer c.args.component (λ k h. c.loop-polygon.invariant k (omega arith)))
