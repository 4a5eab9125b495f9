use Rattle.std.proofs.Common.{ℕ, List, ℤ, ◌+◌, ◌≡◌, ◌≤◌, refl, sym, ◌∙◌, arith}
use Rattle.cell.proofs.Offsets.{off-le}
use Rattle.refusals.specs.Limits.{coordinate}
use Rattle.strips.specs.Rings.{edge_at}
use Rattle.strips.specs.Walk.{unsorted_edges}
use Rattle.strips.specs.declared.ring.Edge.{Edge}
use Rattle.strips.proofs.Picking.{front}
use Rattle.strips.proofs.Walks.{unsorted-yes, unsorted-no}
use Rattle.strips.proofs.walk.gather_edges.Goals as goal
use Rattle.strips.proofs.walk.gather_edges.Goals.{then-vertical, else-vertical}

pub loop-i-init : goal.loop-i-init
unfolding unsorted_edges
loop-i-init c = (omega arith, refl)

-- an edge's x is a coordinate
in_frame : (e : Edge) (ps : List (List ℤ)) (i : ℕ) → e ≡ edge_at ps i → e.x0 ≤ coordinate + coordinate
unfolding edge_at
in_frame e ps i q = rw q (off-le _)

pub overflow_mul-row : goal.overflow_mul-row
overflow_mul-row c = omega (arith, in_frame _ _ _ c.edge_at-e.ensures)

pub overflow_add-row : goal.overflow_add-row
overflow_add-row c = omega (arith, in_frame _ _ _ c.edge_at-e.ensures)

pub loop-i-preserved : goal.loop-i-preserved
unfolding edge_at
loop-i-preserved c =
    let ps = c.args.points.now in
    let s = c.loop-i in
    elim c.if-vertical.branch [
      | then-vertical w ↦
          let v = rw (c.vertical.ensures, c.edge_at-e.ensures) at w.if-vertical.true in (
            rw w.n-is (omega arith),
            rw (w.row-is, w.n-is)
                (front s.row (unsorted_edges ps s.i) s.n _ (omega arith) s.invariant.1
                ∙ rw (unsorted-yes ps s.i v, c.edge_at-e.ensures) refl),
          )
      | else-vertical w ↦
          let v = rw (c.vertical.ensures, c.edge_at-e.ensures) at w.if-vertical.false in
          (rw w.n-is (omega arith), rw (w.row-is, w.n-is) (s.invariant.1 ∙ sym (unsorted-no ps s.i v)))
    ]
