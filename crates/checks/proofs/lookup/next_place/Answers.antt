use Rattle.std.proofs.Common.{◌+◌, ◌∙◌, sym, ap, subst}
use Rattle.std.specs.Bool.{then_some}
use Rattle.net_rows.specs.Nets.{no_node}
use Rattle.checks.proofs.Nearest.{EndsAt, none-yet, nearest-place, nearer, no-nearer-one}
use Rattle.checks.proofs.lookup.next_place.Goals.{then-stands_between, else-stands_between}
use Rattle.checks.proofs.lookup.next_place.Goals as goal

pub loop-node-init : goal.loop-node-init
loop-node-init c = record { line = c.requires.on_line; nearest = none-yet _ _ _ _ _ _ }

pub stands_between-requires-clause-sound : goal.stands_between-requires-clause-sound
stands_between-requires-clause-sound c = c.requires.sound c.loop-node.node-index no_node c.loop-node-test.true

pub loop-node-preserved : goal.loop-node-preserved
loop-node-preserved c =
    let a = c.args in
    let l = c.loop-node in
    let r = c.requires in
    elim c.if-stands_between.branch [
      | then-stands_between w ↦
          subst (EndsAt a.nodes.now a.class a.axis a.from a.to (l.node-index + 1)) (sym (w.end-is ∙ w.place_of-end.ensures))
          (nearer _ _ _ _ _ _ r.sound r.near_from r.near_to l.node-index c.loop-node-test.true l.invariant _ c.stands_between.ensures w.if-stands_between.true)
      | else-stands_between w ↦
          subst (EndsAt a.nodes.now a.class a.axis a.from a.to (l.node-index + 1)) (sym w.end-is)
          (no-nearer-one _ _ _ _ _ _ r.sound r.near_from r.near_to l.node-index c.loop-node-test.true l.invariant _ c.stands_between.ensures w.if-stands_between.false)
    ]

pub returns : goal.returns
returns c =
    let a = c.args in
    let l = c.loop-node in
    c.then_some.ensures
    ∙ ap (λ t. then_some t l.end) c.ne.ensures
    ∙ nearest-place a.nodes.now a.class a.axis a.from a.to l.end l.node-index c.requires.on_line l.invariant.line c.loop-node-test.false l.invariant.nearest
