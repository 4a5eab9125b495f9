use Rattle.std.proofs.Common.{ap, ◌∙◌, arith}
use Rattle.bare_net.specs.Sides.{edge_at}
use Rattle.bare_net.specs.Parts.{part_count, part_of, edges_among}
use Rattle.bare_net.proofs.Welding.{edged_none, edged_own, edged_other, edged_all, so_far_few}
use Rattle.bare_net.proofs.parts.Parts.put_edges.Goals.{then-first-j, else-first-j}
use Rattle.bare_net.proofs.parts.Parts.put_edges.Goals as goal

pub loop-j-init : goal.loop-j-init
loop-j-init c = edged_none (part_of c.args.self.now) (part_count c.args.self.now) _

pub bounds-edges-count : goal.bounds-edges-count
bounds-edges-count c =
    let s = c.args.self.now in
    let few = so_far_few (part_of s) (part_count s) c.loop-j.j in
    let long = c.requires.a_first_each in
    let t = c.loop-j-test.true in
    let i = c.loop-j.invariant.count-is in
    let h = c.requires.room in
    omega arith

pub loop-j-preserved : goal.loop-j-preserved
loop-j-preserved c =
    let s = c.args.self.now in
    let n = part_count s in
    let r = c.requires in
    let long = r.a_first_each in
    let t = c.loop-j-test.true in
    let i = c.loop-j.invariant in
    elim c.if-first-j.branch [
      | then-first-j w ↦
          rw (w.edges-is, w.count-is)
          (edged_own (part_of s) n _ long r.are_firsts _ r.room _ _ _ _ (omega arith) i w.if-first-j.true (w.edge.ensures ∙ ap (edge_at s.sides.now) w.slot.ensures.value))
      | else-first-j w ↦ rw (w.edges-is, w.count-is) (edged_other (part_of s) n _ long r.are_firsts _ r.room _ _ _ (omega arith) i w.if-first-j.false)
    ]

pub returns : goal.returns
unfolding edges_among
returns c =
    let s = c.args.self.now in
    let n = part_count s in
    let long = c.requires.a_first_each in
    let t = c.loop-j-test.false in
    let e = edged_all (part_of s) n _ _ _ _ (omega arith) c.loop-j.invariant in
    record { count = e.0; row = e.1 }
