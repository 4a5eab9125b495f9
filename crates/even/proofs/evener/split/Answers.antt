use Rattle.std.proofs.Common.{◌+◌, ◌/◌, ◌≤◌, length, true≢false, arith, refl, sym, ap, subst, ◌∙◌, List, is_none}
use Rattle.table.specs.Mesh.{Cell}
use Rattle.table.specs.TablesMut.{cells_mut}
use Rattle.table.proofs.Meshes.{length-split}
use Rattle.table.proofs.Tables.{leaf_read}
use Rattle.table.proofs.Wellformed.{formed-facts}
use Rattle.search.specs.Roots.{Indexes}
use Rattle.search.proofs.Boxes.{split-indexed}
use Rattle.even.specs.Undo.{undone}
use Rattle.even.proofs.Undoing.{undone-split}
use Rattle.even.proofs.Going.{goes-start, length-of}
use Rattle.even.proofs.evener.split.Goals as goal

pub returns-then-not-has_room : goal.returns-then-not-has_room
returns-then-not-has_room c =
    let s = c.args.table.now in
    let no : s.head.count + 4 ≤ length s.row.now / 8 → ⊥ =
    λ h. true≢false (sym (c.has_room.ensures.1 h) ∙ c.if-not-has_room.true) in
    record {
      goes_on = goes-start s;
      cells = tt;
      full = omega (arith, length-split (cells_mut s) c.args.id, length-of s, no);
      refusal = refl;
    }

pub returns : goal.returns
returns c =
    let t = c.args.table.now in
    let i = c.requires.inside in
    record {
      goes_on = record {
        same_reference = c.split.ensures.same_reference;
        row_length = c.split.ensures.row_length;
        max_level = ap (λ h. h.max_level) c.split.ensures.head;
        more = omega (arith, ap (λ h. h.count) c.split.ensures.head);
        roots = λ r x. subst (λ (u : List Cell). Indexes r u) (sym c.split.ensures.cells)
            (split-indexed (cells_mut t) c.args.id (rw length-of i) r x);
        undone = λ m h. ap (undone m) c.split.ensures.row
            ∙ undone-split t.row.now t.head c.args.id m (formed-facts _ _ t.formed) i
            (leaf_read _ _ _ i ∙ ap is_none c.requires.leaf) (c.has_room.ensures.0 c.if-not-has_room.false) h;
      };
      cells = c.split.ensures.cells;
      full = tt;
      refusal = tt;
    }
