-- Roots that fit: those of one grid do, and boards of polygons that differ in layer or component. Assumes nothing.
use mathlib.Core.Logic.{by_cases}
use Rattle.std.proofs.Common.{◌≡◌, sym, ap, subst, subst₂, ◌∙◌, List, ℕ, ◌+◌, ◌*◌, ◌-◌, ◌/◌, ◌%◌, ◌<◌, arith, mul-add}
use native.Mathlib.Decide.{ℕ_discrete, dec_lt}
use native.Mathlib.Nat.{add-mul-mod_self_left}
use Rattle.cell.specs.Boxes.{Box}
use Rattle.table.specs.Mesh.{Cell, at}
use Rattle.table.specs.Formed.{Formed}
use Rattle.table.proofs.Meshes.{root_in}
use Rattle.laws.specs.Grids.{RootOf, OneGrid}
use Rattle.laws.specs.Fit.{Meet, Overlap, InStep, RootsFit}
use Rattle.laws.specs.Joined.{GridFits, ApartBoardsFit}
use Rattle.laws.specs.Made.{no_poly}
use Rattle.laws.proofs.Axis.{unit, unit-half, Alike, finer-mod, same_step}
use Rattle.laws.proofs.Apart.{RootsApart}
use Rattle.laws.proofs.Placed.{cell-positive, root-units}

-- `Fit`, with roots that begin a multiple of the unit of level d apart in place of half their length
pub record FitBy (M d : ℕ) (a b : Box) : Type 0 where
  pub apart : Overlap a b → ⊥
  pub on_top : a.y1 ≡ b.y0 → Meet a.x0 a.x1 b.x0 b.x1 → Alike M d a.x0 a.x1 b.x0 b.x1
  pub beside : a.x1 ≡ b.x0 → Meet a.y0 a.y1 b.y0 b.y1 → Alike M d a.y0 a.y1 b.y0 b.y1

abbrev pub RootsFitBy : ℕ → ℕ → List Cell → ℕ → Type 0
RootsFitBy M d t k = (r s : ℕ) → RootOf t k r → RootOf t k s → (r ≡ s → ⊥) → FitBy M d (at t r).box (at t s).box

pub by-apart : (M d : ℕ) (t : List Cell) (k : ℕ) → RootsFitBy M d t k → RootsApart t k
by-apart M d t k fit r s a b o = by_cases (ℕ_discrete r s) (λ e. e) (λ n. absurd ((fit r s a b n).apart o))

-- ---- half the length is the unit of level 1

half-unit : (M w a b : ℕ) → b ≡ a + unit M w 0 → (b - a) / 2 ≡ unit M w 1
half-unit M w a b e = omega (arith, unit-half M w 0 (omega arith))

alike-of : (M w a b c e : ℕ) → b ≡ a + unit M w 0 → c < e → InStep a b c e → Alike M 1 a b c e
alike-of M w a b c e one l s =
    let h = half-unit M w a b one in
    record { w = w; one = one; two = omega (arith, s.long); apart = subst (λ (z : ℕ). a % z ≡ c % z) h s.apart }

of-alike : (M a b c e : ℕ) → Alike M 0 a b c e → InStep a b c e
of-alike M a b c e r =
    let h = half-unit M r.w a b r.one in
    record { long = omega (arith, r.one, r.two); apart = subst (λ (z : ℕ). a % z ≡ c % z) (sym h) (finer-mod M r.w 1 0 a c (omega arith) (omega arith) r.apart) }

-- two cells of one grid
grid-alike : (M w o u i j a b c e : ℕ) → a ≡ o + u * i → b ≡ o + u * (i + 1) → c ≡ o + u * j → e ≡ o + u * (j + 1) → b ≡ a + unit M w 0 → Alike M 0 a b c e
grid-alike M w o u i j a b c e p q r s f =
    let m = mul-add u i 1 in
    let n = mul-add u j 1 in
    let z : u ≡ unit M w 0 = omega arith in
    let k : a % u ≡ c % u = ap (λ (x : ℕ). x % u) p ∙ add-mul-mod_self_left o u i ∙ sym (add-mul-mod_self_left o u j) ∙ ap (λ (x : ℕ). x % u) (sym r) in
    record { w = w; one = f; two = omega arith; apart = subst (λ (x : ℕ). a % x ≡ c % x) z k }

module _ (M : ℕ) (t : List Cell) (formed : Formed M t) (k : ℕ) where
  pub fit-by : RootsFit t k → RootsFitBy M 1 t k
  fit-by fit r s a b n =
      let f = fit r s a b n in
      let u = root-units M t formed r a.top in
      let p = cell-positive M t formed s (root_in t s b.top) in
      let R = (at t r).box in
      let S = (at t s).box in
      record {
        apart = f.apart;
        on_top = λ e m. alike-of M u.w R.x0 R.x1 S.x0 S.x1 u.across p.0 (f.on_top e m);
        beside = λ e m. alike-of M u.h R.y0 R.y1 S.y0 S.y1 u.upright p.1 (f.beside e m);
      }

  pub grid-by : OneGrid t k → RootsFitBy M 0 t k
  grid-by strip r s a b n =
      let g = strip.grid in
      let i = strip.column r in
      let j = strip.column s in
      let v = strip.row r in
      let w = strip.row s in
      let u = root-units M t formed r a.top in
      let p = strip.placed r a in
      let q = strip.placed s b in
      let R = (at t r).box in
      let S = (at t s).box in
      record {
        apart = λ o. (let m = subst₂ Overlap p q o in n (strip.once r s a b (same_step g.west g.wide i j m.0) (same_step g.south g.high v w m.1)));
        on_top = λ e m. grid-alike M u.w g.west g.wide i j R.x0 R.x1 S.x0 S.x1 (ap (λ (x : Box). x.x0) p) (ap (λ (x : Box). x.x1) p) (ap (λ (x : Box). x.x0) q) (ap (λ (x : Box). x.x1) q) u.across;
        beside = λ e m. grid-alike M u.h g.south g.high v w R.y0 R.y1 S.y0 S.y1 (ap (λ (x : Box). x.y0) p) (ap (λ (x : Box). x.y1) p) (ap (λ (x : Box). x.y0) q) (ap (λ (x : Box). x.y1) q) u.upright;
      }

-- ---- the laws that src/hanging.rt promises

pub grid-fits : GridFits
grid-fits M t k formed strip r s a b n =
    let f = grid-by M t formed k strip r s a b n in
    let R = (at t r).box in
    let S = (at t s).box in
    record {
      apart = f.apart;
      on_top = λ e m. of-alike M R.x0 R.x1 S.x0 S.x1 (f.on_top e m);
      beside = λ e m. of-alike M R.y0 R.y1 S.y0 S.y1 (f.beside e m);
    }

pub apart-fits : ApartBoardsFit
apart-fits t ps apart h =
    record {
      fit = h;
      apart = λ k l j m n e f. absurd (by_cases (dec_lt j k) (λ u. apart j k no_poly u l e f) (λ u. apart k j no_poly (grind (arith, n)) m (sym e) (sym f)));
    }
