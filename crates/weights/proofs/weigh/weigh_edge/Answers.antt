use Rattle.std.proofs.Common.{◌∙◌, None, Some}
use Rattle.weights.proofs.Faces.{from-there, to-there, face-small, distance-small, weighed-is}
use Rattle.weights.proofs.Pairs.{sheet-missing, sheet-found}
use Rattle.weights.proofs.weigh.weigh_edge.Goals as goal

pub returns-in_default : goal.returns-in_default
returns-in_default c =
    let a = c.args in let n = a.net.now in let r = c.requires in
    weighed-is n.nodes.now n.cells.now a.extents.now r.extended a.edge r.ends_known None (sheet-missing n.cells.now a.edge.from a.edge.to (c.in_default.ensures n.cells.now r.sided))

pub face-requires-clause-small : goal.face-requires-clause-small
face-requires-clause-small c =
    let a = c.args in let n = a.net.now in let r = c.requires in
    rw c.across-axis.ensures (face-small n.nodes.now n.cells.now a.extents.now r.extended a.edge r.ends_known)

pub face-requires-clause-from_there : goal.face-requires-clause-from_there
face-requires-clause-from_there c =
    let a = c.args in let n = a.net.now in let r = c.requires in
    from-there n.nodes.now n.cells.now a.extents.now r.extended a.edge r.ends_known

pub face-requires-clause-to_there : goal.face-requires-clause-to_there
face-requires-clause-to_there c =
    let a = c.args in let n = a.net.now in let r = c.requires in
    to-there n.nodes.now n.cells.now a.extents.now r.extended a.edge r.ends_known

pub weight_of-requires-clause-face_small : goal.weight_of-requires-clause-face_small
weight_of-requires-clause-face_small c =
    let a = c.args in let n = a.net.now in let r = c.requires in
    rw (c.face.ensures, c.across-axis.ensures) (face-small n.nodes.now n.cells.now a.extents.now r.extended a.edge r.ends_known)

pub weight_of-requires-clause-distance_small : goal.weight_of-requires-clause-distance_small
weight_of-requires-clause-distance_small c =
    let a = c.args in let n = a.net.now in let r = c.requires in
    rw (c.distance.ensures, c.across-axis.ensures) (distance-small n.nodes.now n.cells.now a.extents.now r.extended a.edge r.ends_known)

pub returns : goal.returns
returns c =
    let a = c.args in let n = a.net.now in let r = c.requires in
    c.weight_of.ensures
    ∙ rw (c.face.ensures, c.distance.ensures, c.across-axis.ensures)
    (weighed-is n.nodes.now n.cells.now a.extents.now r.extended a.edge r.ends_known (Some _)
    (sheet-found n.cells.now a.edge.from a.edge.to _ _ (c.in-Some.ensures n.cells.now r.sided)))
