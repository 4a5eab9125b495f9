-- The borders along a leaf's side add up to the side: the law that src/borders.rt promises. Assumes nothing.
use Rattle.std.proofs.Common.{◌≡◌, ◌∙◌, Bool, ◌&&◌, cond, eqb, is_none, List, ℕ, length}
use Rattle.cell.specs.declared.border.Side.{Side}
use Rattle.cell.specs.declared.border.Side.TheVariants.{South, East, North, West}
use Rattle.cell.specs.Boxes.{Box, length_on}
use Rattle.table.specs.Mesh.{Cell, at, past}
use Rattle.table.specs.Formed.{Formed}
use Rattle.laws.specs.Grids.{LeafOf}
use Rattle.laws.specs.Borders.{FullGrid, outline, borders_length, BordersFill, BordersFillSides}
use Rattle.laws.proofs.BordersTotals.{total, total-list}
use Rattle.laws.proofs.BordersTiles.{IsTile, Tiles, behind-filled, before-filled, none-behind, none-before, turned}
use Rattle.laws.proofs.BordersLeaves.{tile, of-leaf, x0, x1, y0, y1, tiles}

module _ (M : ℕ) (t : List Cell) (k : ℕ) (formed : Formed M t) (f : FullGrid t k) (i : ℕ) (leaf : LeafOf t k i) where
  abbrev b : Box
  b = (at t i).box

  -- the sum goes over the ids
  by-ids : (s : Side) → borders_length t k s i ≡ total (λ j. cond (is_none (at t j).kids && eqb (at t j).polygon k) (length_on s b (at t j).box) 0) (length t)
  unfolding borders_length
  by-ids s = total-list (λ (c : Cell). cond (is_none c.kids && eqb c.polygon k) (length_on s b c.box) 0) past t

  abbrev n : ℕ
  n = length t

  abbrev is : ℕ → Bool
  is = tile M t formed k f

  abbrev left : ℕ → ℕ
  left = x0 M t formed k f

  abbrev right : ℕ → ℕ
  right = x1 M t formed k f

  abbrev low : ℕ → ℕ
  low = y0 M t formed k f

  abbrev high : ℕ → ℕ
  high = y1 M t formed k f

  abbrev o : Box
  o = outline f

  across : Tiles n is left right low high o.x0 o.x1 o.y0 o.y1
  across = tiles M t formed k f

  upright : Tiles n is low high left right o.y0 o.y1 o.x0 o.x1
  upright = turned n is left right low high o.x0 o.x1 o.y0 o.y1 across

  own : IsTile n is left right low high i
  own = of-leaf M t formed k f i leaf

  own-turned : IsTile n is low high left right i
  own-turned = own

  fill : (s : Side) → BordersFill t k o i s
  fill South =
      record {
        inside = λ h. by-ids South ∙ before-filled n is low high left right o.y0 o.y1 o.x0 o.x1 upright i own-turned h;
        outside = λ e. by-ids South ∙ none-before n is low high left right o.y0 o.y1 o.x0 o.x1 upright i own-turned e;
      }
  fill East =
      record {
        inside = λ h. by-ids East ∙ behind-filled n is left right low high o.x0 o.x1 o.y0 o.y1 across i own h;
        outside = λ e. by-ids East ∙ none-behind n is left right low high o.x0 o.x1 o.y0 o.y1 across i own e;
      }
  fill North =
      record {
        inside = λ h. by-ids North ∙ behind-filled n is low high left right o.y0 o.y1 o.x0 o.x1 upright i own-turned h;
        outside = λ e. by-ids North ∙ none-behind n is low high left right o.y0 o.y1 o.x0 o.x1 upright i own-turned e;
      }
  fill West =
      record {
        inside = λ h. by-ids West ∙ before-filled n is left right low high o.x0 o.x1 o.y0 o.y1 across i own h;
        outside = λ e. by-ids West ∙ none-before n is left right low high o.x0 o.x1 o.y0 o.y1 across i own e;
      }

pub borders-fill : BordersFillSides
borders-fill M t k formed f i l s = fill M t k formed f i l s
