-- The cells that are listed as near a via, and what a list tells of a corner. Assumes nothing.
use Rattle.std.proofs.lemmas.Bool.Decides.{nat_tests}
use Rattle.std.proofs.Common.{◌≡◌, sym, ap, subst, ◌∙◌, true, false, List, ℕ, ◌+◌, ◌≤◌, ◌<◌, arith, length, get_or, get_or-set_same, get_or-set_other, ⊎_elim}
use mathlib.Core.Bool.{false≢true}
use Rattle.cell.specs.Boxes.{Box, HasArea}
use Rattle.cell.proofs.Offsets.{below?}
use Rattle.table.specs.Mesh.{Cell, at}
use Rattle.table.proofs.All.{top?, never, and_left}
use Rattle.net_rows.specs.declared.rows.Polygons.{Polygons}
use Rattle.net.specs.Net.{MeshNode, has, same_node}
use Rattle.net.specs.Laws.{IsWithin, widest}
use Rattle.links.specs.declared.count.Near.{Near}
use Rattle.links.specs.declared.count.Window.{Window}
use Rattle.links.specs.Windows.{IsInside, misses}
use Rattle.links.specs.Listed.{listed, IsListed, AreListed}
use Rattle.links.specs.Count.{has_corner, is_leaf_of, meets, corners_below}
use Rattle.links.proofs.Marks.{met-none}

module _ (cs : List Cell) where
  pub listed-none : (near : Near) → length near.ids ≡ listed → near.count ≡ 0 → AreListed cs near 0
  listed-none near l e = record { long = l; below = λ room j h. absurd (omega arith); all = λ room i h. absurd (omega arith) }

  -- one cell more is listed, while there is room
  pub listed-add : (old new : Near) (k : ℕ) → AreListed cs old k → IsListed old k new → new.window ≡ old.window → AreListed cs new (k + 1)
  listed-add old new k a l w =
      record {
        long = l.long ∙ a.long;
        below = λ room j h. (let r = had room in
            ⊎_elim
            (λ (q : j < old.count). (let b = a.below r j q in omega (arith, other r j q)))
            (λ (q : old.count ≤ j). (let e : j ≡ old.count = omega (arith, l.one r) in let g = last r in omega (arith, ap (λ (n : ℕ). get_or new.ids n 0) e)))
            (below? j old.count));
        all = λ room i h m. (let r = had room in
            ⊎_elim
            (λ (q : i < k). (let f = a.all r i q (subst (λ (v : Window). misses v (at cs i).box ≡ false) w m) in
            let low = f.1 in
            (f.0, omega (arith, l.one r), other r f.0 low ∙ f.2)))
            (λ (q : i ≡ k). (old.count, omega (arith, l.one r), last r ∙ sym q))
            (top? i k (omega arith)));
      }
    where
      had : new.count < listed → old.count < listed
      had room = ⊎_elim (λ (q : old.count < listed). q) (λ (q : listed ≤ old.count). (let f = l.full q in absurd (omega arith))) (below? old.count listed)

      other : old.count < listed → (j : ℕ) → j < old.count → get_or new.ids j 0 ≡ get_or old.ids j 0
      other r j q = ap (λ (xs : List ℕ). get_or xs j 0) (l.put r) ∙ get_or-set_other old.ids old.count j k 0 (λ e. omega arith)

      last : old.count < listed → get_or new.ids old.count 0 ≡ k
      last r = let n = a.long in ap (λ (xs : List ℕ). get_or xs old.count 0) (l.put r) ∙ get_or-set_same old.ids old.count k 0 (omega arith)

-- a cell with a corner inside the window is not outside it
corner-near : (w : Window) (b : Box) (m : MeshNode) → HasArea b → IsInside w m → has_corner b m ≡ true → misses w b ≡ false
corner-near w b m area inside e =
    let x = area.0 in
    let y = area.1 in
    let p = inside.0 in
    let q = inside.1 in
    let r = inside.2 in
    let s = inside.3 in
    grind (arith, nat_tests)

-- a corner of a cell is on the board
pub corner-board : (b : Box) (m : MeshNode) → IsWithin widest b → has_corner b m ≡ true → (m.x ≤ widest) × (m.y ≤ widest)
corner-board b m within e =
    let x = within.area.0 in
    let y = within.area.1 in
    let east = within.east in
    let north = within.north in
    (grind (arith, nat_tests), grind (arith, nat_tests))

module _ (cs : List Cell) (ps : Polygons) (m : MeshNode) (near : Near) (k : ℕ) (a : AreListed cs near k) (room : near.count < listed) where
  -- none of the list has it
  pub listed-met : ((i : ℕ) → i < k → HasArea (at cs i).box) → IsInside near.window m → ((j : ℕ) → j < near.count → meets cs ps m (get_or near.ids j 0) ≡ false)
      → has same_node (corners_below cs ps k) m ≡ false
  listed-met area inside none =
      met-none cs ps m k (λ i h. never (meets cs ps m i) (λ e.
      let corner = and_left (has_corner (at cs i).box m) (is_leaf_of cs ps m.layer m.component i) e in
      let f = a.all room i h (corner-near near.window (at cs i).box m (area i h) inside corner) in
      false≢true (sym (none f.0 f.1) ∙ (ap (meets cs ps m) f.2 ∙ e))))
