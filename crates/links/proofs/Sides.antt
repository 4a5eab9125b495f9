-- The nodes of a side of a via: those inside, or the nearest. Assumes nothing.
use Rattle.std.proofs.Common.{◌≡◌, ℕ, ◌*◌, ◌<◌, List, [], ◌∷◌, length, set, refl, sym, ap, ap₂, ◌∙◌, Float, arith, None, Some}
use Rattle.std.specs.Prelude.{option_to_list}
use Rattle.refusals.specs.Said.{written}
use Rattle.net_rows.proofs.Written.{written_more}
use Rattle.net_rows.specs.declared.rows.Node.{Node}
use Rattle.net.specs.Net.{Edge}
use Rattle.links.specs.declared.rows.Footprint.{Footprint}
use Rattle.links.specs.declared.rows.Via.{Via}
use Rattle.links.specs.declared.link.Link.TheVariants as Link
use Rattle.links.specs.Made.{conductance_of, nodes_of, nearest, inside, or_nearest, side_of, pairs, via_links}
use Rattle.links.proofs.Fans.{pairs-long}

module _ (nodes : List Node) (f : Footprint) (ns ins : List ℕ) where
  pub some-inside : 0 < length ins → ins ≡ or_nearest nodes f ns ins
  unfolding or_nearest
  some-inside = by ins
    where
      by : (l : List ℕ) → 0 < length l → l ≡ or_nearest nodes f ns l
      by [] h = absurd (omega arith)
      by (i ∷ l) h = refl

  none-inside : length ins ≡ 0 → or_nearest nodes f ns ins ≡ option_to_list (nearest nodes f.x f.y ns)
  unfolding or_nearest
  none-inside = by ins
    where
      by : (l : List ℕ) → length l ≡ 0 → or_nearest nodes f ns l ≡ option_to_list (nearest nodes f.x f.y ns)
      by [] h = refl
      by (i ∷ l) h = absurd (omega arith)

  empty : (l : List ℕ) → length l ≡ 0 → l ≡ []
  empty [] h = refl
  empty (i ∷ l) h = absurd (omega arith)

  module _ (old row : List ℕ) (h : length ins ≡ 0) (r : row ≡ written ins old) where
    pub as-before : row ≡ old
    as-before = r ∙ ap (λ (l : List ℕ). written l old) (empty ins h)

    pub is-none : None ≡ nearest nodes f.x f.y ns → or_nearest nodes f ns ins ≡ []
    is-none e = none-inside h ∙ ap option_to_list (sym e)

    pub is-one : (i : ℕ) → Some i ≡ nearest nodes f.x f.y ns → or_nearest nodes f ns ins ≡ i ∷ []
    is-one i e = none-inside h ∙ ap option_to_list (sym e)

    pub none-written : None ≡ nearest nodes f.x f.y ns → row ≡ written (or_nearest nodes f ns ins) old
    none-written e = as-before ∙ ap (λ (l : List ℕ). written l old) (sym (is-none e))

    pub one-written : (i : ℕ) → 0 < length old → Some i ≡ nearest nodes f.x f.y ns → set row 0 i ≡ written (or_nearest nodes f ns ins) old
    one-written i room e =
        ap (λ (l : List ℕ). set l 0 i) as-before ∙ (written_more [] old 0 i refl room ∙ ap (λ (l : List ℕ). written l old) (sym (is-one i e)))

-- ---- a via by its sides
pub side-is : (nodes : List Node) (v : Via) (layer : ℕ) (ns l : List ℕ) → ns ≡ nodes_of nodes layer v.component → l ≡ or_nearest nodes v.footprint ns (inside nodes v.footprint ns) → l ≡ side_of nodes v layer
unfolding side_of
side-is nodes v layer ns l e h = h ∙ ap (λ (z : List ℕ). or_nearest nodes v.footprint z (inside nodes v.footprint z)) e

module _ (nodes : List Node) (v : Via) (bottom top : List ℕ) (b : bottom ≡ side_of nodes v v.bottom) (t : top ≡ side_of nodes v v.top) where
  pub via-is : (g : Float) → g ≡ conductance_of (Link.Via v.resistance) (length bottom * length top) → pairs g bottom top ≡ via_links nodes v
  unfolding via_links
  via-is g e =
      ap (λ (z : Float). pairs z bottom top) e
      ∙ ap₂ {C = List Edge} (λ (x y : List ℕ). pairs (conductance_of (Link.Via v.resistance) (length x * length y)) x y) b t

  pub via-long : length (via_links nodes v) ≡ length bottom * length top
  via-long =
      let g = conductance_of (Link.Via v.resistance) (length bottom * length top) in
      ap length (sym (via-is g refl)) ∙ pairs-long g bottom top
