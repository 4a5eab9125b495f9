-- What build leaves is a well-formed table, by the rules' definition, in which every cell is a root and a leaf. Assumes nothing.
use lib.Ieee.{Float}
use Rattle.std.proofs.Common.{ℕ, suc, ◌+◌, ◌*◌, min, ◌<◌, ◌≤◌, ◌≡◌, refl, sym, ap, ◌∙◌, true, None, List, [], ◌∷◌, arith, eqb, ℤ, pos, length, replicate, length-append, get_or-take, get_or-drop, eq-eqb}
use lib.ListN.{length-replicate}
use Rattle.refusals.specs.Limits.{max_polygons}
use Rattle.cell.specs.declared.Cell as Held
use Rattle.cell.specs.Cells.{no_cell, root_of}
use Rattle.table.specs.Slots.{number, cell_at, in_slot, stored, put_cell, kept}
use Rattle.table.specs.Mesh as Mesh
use Rattle.table.specs.Formed as Table
use Rattle.table.specs.Leaves.{leaf_at}
use Rattle.table.proofs.Stores.{Fits, largest, same-cell, same-held, put_same, put-held}
use Rattle.table.proofs.Cells.{length-table, at_table}
use Rattle.table.proofs.Counting.{leaf_count-cons}
use Rattle.table.proofs.Meshes.{not_some, kids-in, root_in}
use Rattle.table.proofs.Wellformed.{opt_none}
use Rattle.build.specs.Grid.{Root, flat}
use Rattle.build.specs.Board.{Board, polygons, roots_of}
use Rattle.build.specs.Says.{roots_head, filled, build_leaves}
use Rattle.build.specs.Laws.{Accepts, IsTableOfRoots}
use Rattle.build.proofs.Placing.{length-flat}
use Rattle.build.proofs.Formed.{slot, RootsOnly, passed, built-roots}

-- ---- a root's eight numbers are those of a cell that was put into an empty slot

abbrev root_cell : Root → Held.Cell
root_cell r = root_of r.x0 r.y0 r.x1 r.y1 r.poly

abbrev empty : List ℤ
empty = replicate 8 (pos 0)

flat-put : (r : Root) → r.poly ≤ largest → flat (r ∷ []) ≡ put_cell empty 0 (root_cell r)
unfolding flat put_cell stored kept
flat-put r h = let e : min r.poly largest ≡ r.poly = omega arith in rw e refl

slot-number : (u v : List ℤ) (i : ℕ) → slot u i ≡ v → (k : ℕ) → k < 8 → number u i k ≡ number v 0 k
slot-number u v i e k h =
    let z : 0 * 8 + k ≡ k = omega arith in
    rw (z, ← e, get_or-take, get_or-drop) refl

-- as many leaves as cells, where each is a leaf
all-leaves : (t : List Mesh.Cell) → ((i : ℕ) → i < length t → (Mesh.at t i).kids ≡ None) → Mesh.leaf_count t ≡ length t
all-leaves [] h = unfold Mesh.leaf_count in refl
all-leaves (c ∷ t) h =
    let here : c.kids ≡ None = h 0 (omega arith) in
    leaf_count-cons c t ∙ rw (here, all-leaves t (λ i l. h (suc i) (omega arith))) (omega arith)

module _ (b : Board) (u : List ℤ) (n : ℕ) (w : RootsOnly b u n) (few : polygons b ≤ max_polygons) where
  root-small : (i : ℕ) → i < n → (w.root i).poly < max_polygons
  root-small i h = let p = (w.ok i h).polygon in omega arith

  root-fits : (i : ℕ) → i < n → Fits (root_cell (w.root i))
  root-fits i h =
      let o = w.ok i h in
      let s = root-small i h in
      record {
        x0 = omega (arith, o.wide.1, o.right);
        y0 = omega (arith, o.high.1, o.top);
        x1 = o.right;
        y1 = o.top;
        level = omega arith;
        parent = omega arith;
        first = omega arith;
        poly = omega arith;
      }

  slot-put : (i : ℕ) → i < n → (k : ℕ) → k < 8 → number u i k ≡ number (put_cell empty 0 (root_cell (w.root i))) 0 k
  slot-put i h = slot-number u _ i (w.held i h ∙ flat-put (w.root i) (root-fits i h).poly)

  built-cell : (i : ℕ) → i < n → cell_at u i ≡ root_cell (w.root i)
  built-cell i h = same-cell _ u 0 i (slot-put i h) ∙ put_same empty 0 (root_cell (w.root i)) (omega arith) (root-fits i h)

  built-held : (i : ℕ) → i < n → in_slot u i ≡ true
  built-held i h = same-held _ u 0 i (slot-put i h) ∙ put-held empty 0 (root_cell (w.root i)) (omega arith)

  built-leaf : (i : ℕ) → i < n → leaf_at u i ≡ true
  unfolding leaf_at
  built-leaf i h = ap (λ (c : Held.Cell). eqb c.first no_cell) (built-cell i h) ∙ eq-eqb no_cell no_cell refl

  -- the same cell in the table's terms: neither a parent nor a child
  built-at : (i : ℕ) → i < n → Mesh.at (Mesh.table u n) i ≡ Mesh.mesh_cell (root_cell (w.root i))
  built-at i h = at_table u n i h ∙ ap Mesh.mesh_cell (built-cell i h)

  no_kids : (i : ℕ) → i < n → (Mesh.at (Mesh.table u n) i).kids ≡ None
  no_kids i h = ap (λ (c : Mesh.Cell). c.kids) (built-at i h) ∙ opt_none no_cell refl

  no-parent : (i : ℕ) → i < n → (Mesh.at (Mesh.table u n) i).parent ≡ None
  no-parent i h = ap (λ (c : Mesh.Cell). c.parent) (built-at i h) ∙ opt_none no_cell refl

  inside : (i : ℕ) → i < length (Mesh.table u n) → i < n
  inside i h = rw length-table at h

  built-root : (i : ℕ) → i < n → Table.Root b.settings.max_level (Mesh.at (Mesh.table u n) i)
  built-root i h = rw (built-at i h) (record { level = refl; wide = (w.ok i h).wide; high = (w.ok i h).high })

  built-clauses : Table.Formed b.settings.max_level (Mesh.table u n)
  built-clauses =
      record {
        split = λ i f e. not_some (Mesh.at (Mesh.table u n) i).kids f (no_kids i (inside i (kids-in (Mesh.table u n) i f e))) e;
        born = λ i j h e. not_some (Mesh.at (Mesh.table u n) i).parent j (no-parent i (inside i h)) e;
        root = λ i e. built-root i (inside i (root_in (Mesh.table u n) i e));
      }

  -- and so there are as many leaves as cells
  built-count : Mesh.leaf_count (Mesh.table u n) ≡ n
  built-count = all-leaves (Mesh.table u n) (λ i h. no_kids i (inside i h)) ∙ length-table u n

-- ---- an accepted call

length-filled : (b : Board) (size : ℕ) → length (roots_of b) * 8 ≤ size → length (filled b size) ≡ size
unfolding filled
length-filled b size h = simp (length-append, length-replicate) (omega (arith, length-flat (roots_of b)))

module _ (b : Board) (components : List ℕ) (sheets : List Float) (t : List ℤ) (n : ℕ) (e : Accepts b components sheets (length t) n) where
  length-left : length (build_leaves b components sheets t) ≡ length t
  length-left =
      let p = passed b components sheets t n e in
      ap length p.left ∙ length-filled b (length t) (omega (arith, p.count, p.room))

  -- the laws: what an accepted call leaves is well-formed, and each cell of it is a root and a leaf
  pub built-formed : Table.WellFormed (build_leaves b components sheets t) (roots_head b n)
  built-formed =
      let u = build_leaves b components sheets t in
      let p = passed b components sheets t n e in
      let w = built-roots b components sheets t n e in
      let few = p.board.polys in
      record {
        range = p.board.level;
        whole = rw length-left p.shape.whole;
        slots = rw length-left p.shape.few;
        count = rw length-left p.room;
        rest = λ j h l. w.rest j h;
        held = built-held b u n w few;
        level = λ i h. rw (built-cell b u n w few i h) (omega arith);
        polygon = λ i h. rw (built-cell b u n w few i h) (root-small b u n w few i h);
        cells = built-clauses b u n w few;
        leaves = sym (built-count b u n w few);
      }

  pub built-leaves : (i : ℕ) → i < n → leaf_at (build_leaves b components sheets t) i ≡ true
  built-leaves = built-leaf b (build_leaves b components sheets t) n (built-roots b components sheets t n e) (passed b components sheets t n e).board.polys

  pub built-parentless : (i : ℕ) → i < n → (Mesh.at (Mesh.table (build_leaves b components sheets t) n) i).parent ≡ None
  built-parentless = no-parent b (build_leaves b components sheets t) n (built-roots b components sheets t n e) (passed b components sheets t n e).board.polys

pub tables-of-roots : (b : Board) (components : List ℕ) (sheets : List Float) (t : List ℤ) (n : ℕ) → Accepts b components sheets (length t) n
    → IsTableOfRoots (build_leaves b components sheets t) (roots_head b n)
tables-of-roots b components sheets t n e =
    record {
      formed = built-formed b components sheets t n e;
      leaves = built-leaves b components sheets t n e;
      roots = built-parentless b components sheets t n e;
    }
