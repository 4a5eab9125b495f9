-- What a footprint covers lies in its window: the window's middle is the centre, moved up and cut to the board, which is no farther. Assumes nothing.
use Rattle.std.proofs.lemmas.Bool.Decides.{nat_tests}
use Rattle.std.proofs.Common.{ℕ, zero, suc, ◌+◌, ◌-◌, ◌<◌, ◌≤◌, ◌≡◌, refl, sym, ap, subst, ◌∙◌, T, Bool, true, false, ◌&&◌, not, ⊎_elim, arith, List, [], if◌then◌else◌, ℤ, pos, negsuc, ◌-ℤ◌, nat_abs, lt-ltb, le-ltb, leb-true}
use lib.IntN.{sub_ℕ}
use lib.Signed.{le_z}
use Rattle.std.specs.Int.{abs_diff}
use Rattle.refusals.specs.Limits.{coordinate}
use Rattle.cell.specs.Boxes.{Box, HasArea}
use Rattle.cell.specs.Ticks.{off, on}
use Rattle.cell.proofs.Offsets.{below?, on-is}
use Rattle.table.specs.Mesh.{Cell, at}
use Rattle.table.proofs.All.{never}
use Rattle.net_rows.specs.Nodes.{in_ticks}
use Rattle.net_rows.specs.declared.rows.Polygons.{Polygons}
use Rattle.net.specs.Net.{MeshNode, Poly, has, same_node, sw_of, se_of, ne_of, nw_of}
use Rattle.places.specs.Leaves.{poly_at}
use Rattle.net.specs.Laws.{IsWithin, widest}
use Rattle.links.specs.declared.rows.Footprint.{Footprint}
use Rattle.links.specs.declared.count.Window.{Window}
use Rattle.links.specs.Made.{covers}
use Rattle.links.specs.Windows.{IsWindow, misses}
use Rattle.links.specs.Count.{corners_below, is_leaf_of, is_new_inside, new_inside, leaf_adds}

abs-sub : (a b : ℕ) → nat_abs (sub_ℕ a b) ≡ abs_diff a b
abs-sub a b =
    ⊎_elim
    (λ (h : a < b). let e : sub_ℕ a b ≡ negsuc (b - suc a) = simp (lt-ltb a b h) in rw e (omega arith))
    (λ (h : b ≤ a). let e : sub_ℕ a b ≡ pos (a - b) = simp (le-ltb a b h) in rw e (omega arith))
    (below? a b)

module _ (x : ℕ) (h : x ≤ coordinate + coordinate) where
  low : x < coordinate → on x ≡ negsuc (coordinate - suc x)
  low l = sym (on-is x h) ∙ simp (lt-ltb x coordinate l)

  high : coordinate ≤ x → on x ≡ pos (x - coordinate)
  high l = sym (on-is x h) ∙ simp (le-ltb x coordinate l)

  -- a centre that is cut to the board is no farther
  gap : (z : ℤ) → abs_diff x (off z) ≤ nat_abs (on x -ℤ z)
  unfolding off
  gap (pos zero) =
      ⊎_elim
      (λ (l : x < coordinate). rw (low l) (omega (arith, abs-sub 0 (suc (coordinate - suc x)))))
      (λ (l : coordinate ≤ x). rw (high l) (omega arith))
      (below? x coordinate)
  gap (pos (suc n)) =
      ⊎_elim
      (λ (l : x < coordinate). rw (low l) (omega arith))
      (λ (l : coordinate ≤ x). rw (high l) (omega (arith, abs-sub (x - coordinate) (suc n))))
      (below? x coordinate)
  gap (negsuc n) =
      ⊎_elim
      (λ (l : x < coordinate). rw (low l) (omega (arith, abs-sub (suc n) (suc (coordinate - suc x)))))
      (λ (l : coordinate ≤ x). rw (high l) (omega arith))
      (below? x coordinate)

  -- so what is near lies between the centre less the half and the centre and the half
  pub between : (z half : ℤ) → le_z (pos (nat_abs (on x -ℤ z))) half ≡ true → (off z - nat_abs half ≤ x) × (x ≤ off z + nat_abs half)
  between z (pos k) e = let n = leb-true (nat_abs (on x -ℤ z)) k e in (omega (arith, gap z), omega (arith, gap z))
  between z (negsuc k) e = absurd (subst T (sym e) tt)

-- ---- a cell outside the window

module _ (f : Footprint) (w : Window) (window : IsWindow f w) where
  outside : (b : Box) (m : MeshNode) → HasArea b → misses w b ≡ true → m.x ≤ widest → m.y ≤ widest → (b.x0 ≤ m.x) × (m.x ≤ b.x1) × (b.y0 ≤ m.y) × (m.y ≤ b.y1) → covers f (in_ticks m) ≡ false
  outside b m area e x y inside = never (covers f (in_ticks m)) (λ c. (let i = window m x y c in let a = area.0 in let d = area.1 in let p = inside.0 in let q = inside.1 in let r = inside.2 in let s = inside.3 in grind (arith, nat_tests)))

  module _ (cs : List Cell) (ps : Polygons) (i : ℕ) (within : IsWithin widest (at cs i).box) (e : misses w (at cs i).box ≡ true) where
    -- adds no corner
    pub adds-none : (layer component : ℕ) → leaf_adds cs ps f layer component i ≡ 0
    unfolding new_inside
    adds-none layer component = by (is_leaf_of cs ps layer component i)
      where
        b : Box
        b = (at cs i).box

        poly : Poly
        poly = poly_at ps [] (at cs i).polygon

        none : (m : MeshNode) → m.x ≤ widest → m.y ≤ widest → (b.x0 ≤ m.x) × (m.x ≤ b.x1) × (b.y0 ≤ m.y) × (m.y ≤ b.y1) → is_new_inside cs ps f i m ≡ false
        none m x y inside = ap (λ (w : Bool). w && not (has same_node (corners_below cs ps i) m)) (outside b m within.area e x y inside)

        by : (c : Bool) → (if c then new_inside cs ps f i else 0) ≡ 0
        by false = refl
        by true =
            let x = within.area.0 in
            let y = within.area.1 in
            let east = within.east in
            let north = within.north in
            let sw = none (sw_of poly b) (omega arith) (omega arith) (omega arith, omega arith, omega arith, omega arith) in
            let se = none (se_of poly b) (omega arith) (omega arith) (omega arith, omega arith, omega arith, omega arith) in
            let ne = none (ne_of poly b) (omega arith) (omega arith) (omega arith, omega arith, omega arith, omega arith) in
            let nw = none (nw_of poly b) (omega arith) (omega arith) (omega arith, omega arith, omega arith, omega arith) in
            rw (sw, se, ne, nw) refl
