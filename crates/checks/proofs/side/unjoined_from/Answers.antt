use Rattle.std.proofs.Common.{sym, subst, ◌∙◌}
use Rattle.checks.proofs.Chains.{IsLeft, IsAt, LooksOn, no-start, no-end, at-first, begun, not-begun, to-next, to-end, next-near, has-node, shorter, passes, stops}
use Rattle.checks.proofs.side.unjoined_from.Given.{Over}
use Rattle.checks.proofs.side.unjoined_from.Goals.{in-Some-here+in_ok-after-in-Some-here, in-None}
use Rattle.checks.proofs.side.unjoined_from.Goals as goal

pub returns-in_err-start : goal.returns-in_err-start
returns-in_err-start g c = c.from_residual.ensures ∙ sym (no-start _ _ _ _ c.in_err-start.ensures)

pub returns-in_err-end : goal.returns-in_err-end
returns-in_err-end g c = c.from_residual-in_err-end.ensures ∙ sym (no-end _ _ _ _ _ c.in_ok-start.ensures c.in_err-end.ensures)

-- the first place has a node
pub node_at-requires-3-clause-near : goal.node_at-requires-3-clause-near
node_at-requires-3-clause-near g c =
    let first : IsAt (g.L.Lookup.nodes c.args.net.now) (g.L.Lookup.edges c.args.net.now) c.args.class c.args.side c.args.first = at-first _ _ _ _ c.requires.near _ c.requires.first in
    first.near

pub returns-in_err-node : goal.returns-in_err-node
returns-in_err-node g c = absurd (has-node _ (g.L.Lookup.edges c.args.net.now) _ _ _ (at-first _ _ _ _ c.requires.near _ c.requires.first) c.in_err-node.ensures)

pub returns-then-not-are_joined : goal.returns-then-not-are_joined
returns-then-not-are_joined g c =
    sym (not-begun _ _ _ _ c.requires.near _ c.requires.first _ _ _ c.in_ok-start.ensures c.in_ok-end.ensures c.in_ok-node.ensures _ c.are_joined.ensures c.if-not-are_joined.true)

pub loop-here-init : goal.loop-here-init
loop-here-init g c = begun _ _ _ _ c.requires.near _ c.requires.first _ _ _ c.in_ok-start.ensures c.in_ok-end.ensures c.in_ok-node.ensures _ c.are_joined.ensures c.if-not-are_joined.false

-- and so has each next one
next-at : (g : Over) (c : goal.In-Some-here g) → IsAt (g.L.Lookup.nodes c.args.net.now) (g.L.Lookup.edges c.args.net.now) c.args.class c.args.side c.in-Some-here.next
next-at g c = next-near _ _ _ _ c.requires.near _ _ _ _ c.loop-here.invariant _ c.in-Some.is _ c.in-Some-here.ensures

pub node_at-requires-in-Some-here-clause-near : goal.node_at-requires-in-Some-here-clause-near
node_at-requires-in-Some-here-clause-near g c = (next-at g c).near

pub returns-in_err-after-in-Some-here : goal.returns-in_err-after-in-Some-here
returns-in_err-after-in-Some-here g c =
    let next = next-near _ _ _ _ c.requires.near _ _ _ _ c.loop-here.invariant _ c.in-Some.is _ c.in-Some-here.ensures in
    absurd (has-node _ _ _ _ _ next c.in_err-after-in-Some-here.ensures)

pub returns-then-not-are_joined-2 : goal.returns-then-not-are_joined-2
returns-then-not-are_joined-2 g c =
    let m = c.match-here-2 in
    let e = c.next_place-here.ensures in
    let on : LooksOn (g.L.Lookup.nodes c.args.net.now) (g.L.Lookup.edges c.args.net.now) c.args.class c.args.side c.in_ok-end.end c.in-Some.place m.here m.after = elim m.branch [
      | in-Some-here+in_ok-after-in-Some-here w ↦ to-next _ _ _ _ _ _ _ _ _ _ _ e w.in-Some-here.is w.here-is w.after-is w.in_ok-after-in-Some-here.ensures
      | in-None w ↦ to-end _ _ _ _ _ _ _ _ _ e w.in-None.is w.here-is w.after-is
    ] in
    sym (stops _ _ _ _ c.requires.near _ _ _ _ c.loop-here.invariant _ c.in-Some.is _ _ on _ c.are_joined-in-Some.ensures c.if-not-are_joined-2.true)

-- what the walk goes on with
goes-on : (g : Over) (c : goal.Else-not-are_joined-2 g)
    → LooksOn (g.L.Lookup.nodes c.args.net.now) (g.L.Lookup.edges c.args.net.now) c.args.class c.args.side c.in_ok-end.end c.in-Some.place c.match-here-2.here c.match-here-2.after
goes-on g c =
    let e = c.next_place-here.ensures in
    elim c.match-here-2.branch [
      | in-Some-here+in_ok-after-in-Some-here w ↦ to-next _ _ _ _ _ _ _ _ _ _ _ e w.in-Some-here.is w.here-is w.after-is w.in_ok-after-in-Some-here.ensures
      | in-None w ↦ to-end _ _ _ _ _ _ _ _ _ e w.in-None.is w.here-is w.after-is
    ]

pub loop-here-smaller : goal.loop-here-smaller
loop-here-smaller g c = shorter _ _ _ _ c.requires.near _ _ _ _ c.loop-here.invariant _ c.in-Some.is _ _ (goes-on g c)

pub loop-here-preserved : goal.loop-here-preserved
loop-here-preserved g c = passes _ _ _ _ c.requires.near _ _ _ _ c.loop-here.invariant _ c.in-Some.is _ _ (goes-on g c) _ c.are_joined-in-Some.ensures c.if-not-are_joined-2.false

pub returns : goal.returns
returns g c =
    sym ((subst (IsLeft _ _ c.args.class c.args.side c.in_ok-start.start c.in_ok-end.end c.loop-here.node) c.in_default.is c.loop-here.invariant).answer)
