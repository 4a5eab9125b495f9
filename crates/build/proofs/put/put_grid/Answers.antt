use Rattle.std.proofs.Common.{ℕ, List, ℤ, length, ◌+◌, ◌<◌, ◌≤◌, ◌≡◌, arith, sym, ap, ◌∙◌}
use Rattle.strips.specs.declared.walk.Strip.{Strip}
use Rattle.build.specs.declared.grid.Cut.{Cut}
use Rattle.build.specs.Grid.{row_of, row_to, grid_to}
use Rattle.build.specs.Steps.{placed}
use Rattle.build.proofs.Placing.{grid-none, grid-more, length-grid-more, grid_mono, length-row, placed-more}
use Rattle.build.proofs.put.put_grid.Goals as goal

-- a row more is within the strip's slots
fits : (poly : ℕ) (s : Strip) (g : Cut) (j : ℕ) → j < g.ny →
    length (grid_to poly s g j) + g.nx ≤ length (grid_to poly s g g.ny)
fits poly s g j h = omega (arith, length-grid-more poly s g j, grid_mono poly s g (j + 1) g.ny (omega arith))

pub loop-j-init : goal.loop-j-init
unfolding grid_to
loop-j-init c =
    let a = c.args in
    record { next = omega arith; put = grid-none a.t.now a.k a.poly a.s a.g }

pub put_row-requires : goal.put_row-requires
put_row-requires c =
    let z = c.requires in
    let f = fits c.args.poly c.args.s c.args.g c.loop-j.j c.loop-j-test.true in
    rw c.row_of.ensures
    (record {
      width = omega (arith, z.sound.wide);
      in_range = z.sound.right;
      some_cells = z.within_cap.x-some;
      room = record { room = omega (arith, z.room.room); few = omega (arith, z.room.few) };
      polygon_in_range = z.polygon_in_range;
    })

pub overflow_add-at : goal.overflow_add-at
overflow_add-at c =
    let z = c.requires.room in
    omega (arith, fits c.args.poly c.args.s c.args.g c.loop-j.j c.loop-j-test.true, z.room, z.few)

pub loop-j-preserved : goal.loop-j-preserved
loop-j-preserved c =
    let a = c.args in
    let s = c.loop-j in
    let r = row_to a.poly (row_of a.s a.g s.j) a.g.nx a.g.nx in
    let n : length r ≡ a.g.nx = length-row a.poly (row_of a.s a.g s.j) a.g.nx a.g.nx in
    let f = fits a.poly a.s a.g s.j c.loop-j-test.true in
    record {
      next = omega (arith, s.invariant.next, length-grid-more a.poly a.s a.g s.j);
      put = c.put_row.ensures
          ∙ ap (λ (q : Strip). placed s.t s.at (row_to a.poly q a.g.nx a.g.nx)) c.row_of.ensures
          ∙ ap (λ (l : List ℤ). placed l s.at r) s.invariant.put
          ∙ placed-more a.t.now a.k s.at (grid_to a.poly a.s a.g s.j) r s.invariant.next
          (omega (arith, c.requires.room.room))
          ∙ ap (placed a.t.now a.k) (sym (grid-more a.poly a.s a.g s.j));
    }
