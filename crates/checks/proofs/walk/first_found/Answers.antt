use Rattle.std.proofs.Common.{◌<◌, sym, ap, subst, ◌∙◌, length, arith, slice_get}
use Rattle.std.proofs.lemmas.List.{map-id}
use Rattle.std.proofs.lemmas.Iterator.Consumers.{YieldsList-from_first, YieldsList-so_far, YieldsList-turn, YieldsList-end}
use Rattle.table.specs.Tables.{leaves, leaves_left}
use Rattle.checks.specs.Walks.{found_on, first_found}
use Rattle.checks.proofs.Faults.{none_more, found_at, leaf-inside, near-cell}
use Rattle.checks.proofs.walk.first_found.Goals as goal

pub cell_at-leaf-requires : goal.cell_at-leaf-requires
cell_at-leaf-requires g c =
    let l = c.loop-id in
    let t = c.args.table.now in
    let turn = YieldsList-turn (YieldsList-from_first (λ x. x) leaves_left (leaves t) cc) l.yielded _ l.yielded_by _ c.next.new.self c.in-Some.id c.in-Some.is c.next.ensures.steps in
    let inside : c.in-Some.id < t.head.count = subst (λ i. i < t.head.count) (sym turn.1) (leaf-inside t.row.now t.head (length l.yielded) c.in-Some.id turn.0) in
    let within = t.within in
    omega arith

pub class_of-requires : goal.class_of-requires
class_of-requires g c =
    let l = c.loop-id in
    let t = c.args.table.now in
    let turn = YieldsList-turn (YieldsList-from_first (λ x. x) leaves_left (leaves t) cc) l.yielded _ l.yielded_by _ c.next.new.self c.in-Some.id c.in-Some.is c.next.ensures.steps in
    rw c.cell_at-leaf.ensures
    (c.requires.polygons_there c.in-Some.id (subst (λ i. i < t.head.count) (sym turn.1) (leaf-inside t.row.now t.head (length l.yielded) c.in-Some.id turn.0)))

pub leaf_found-found-requires-clause-near : goal.leaf_found-found-requires-clause-near
leaf_found-found-requires-clause-near g c = rw c.cell_at-leaf.ensures (near-cell c.args.table.now.row.now c.in-Some.id)

pub loop-id-preserved : goal.loop-id-preserved
loop-id-preserved g c =
    let is = rw (c.class_of.ensures, c.cell_at-leaf.ensures) at c.leaf_found-found.ensures in
    none_more _ c.loop-id.yielded c.in-Some.id c.loop-id.invariant (ap (found_on c.in-Some.id) (sym is ∙ c.in_default.is))

pub returns-in-Some-found : goal.returns-in-Some-found
unfolding first_found
returns-in-Some-found g c =
    let l = c.loop-id in
    let t = c.args.table.now in
    let road = YieldsList-from_first (λ x. x) leaves_left (leaves t) cc in
    let turn = YieldsList-turn road l.yielded _ l.yielded_by _ c.next.new.self c.in-Some.id c.in-Some.is c.next.ensures.steps in
    let so_far = sym (map-id l.yielded) ∙ YieldsList-so_far road l.yielded _ l.yielded_by in
    let is = rw (c.class_of.ensures, c.cell_at-leaf.ensures) at c.leaf_found-found.ensures in
    found_at _ (leaves t) l.yielded c.in-Some.id _ so_far turn.0 turn.1 l.invariant (ap (found_on c.in-Some.id) (sym is ∙ c.in-Some-found.is))

pub returns : goal.returns
unfolding first_found
returns g c =
    let l = c.loop-id in
    let t = c.args.table.now in
    let end = YieldsList-end (YieldsList-from_first (λ x. x) leaves_left (leaves t) cc) l.yielded _ l.yielded_by _ c.next.new.self c.in-None.is c.next.ensures.steps in
    let all = sym (map-id l.yielded) ∙ end.0 in
    ap (λ (xs : _). slice_get xs 0) (sym (rw all at l.invariant))
