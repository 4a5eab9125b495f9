-- An accepted record's layers have 16 bits and its components 32. Assumes nothing.
use Rattle.std.proofs.Common.{ℕ, ◌^◌, ◌<◌, ◌≡◌, true, List, [], ◌∷◌, map, get_or, Ok}
use Rattle.std.proofs.lemmas.List.Elements.{All-nil, All-cons}
use Rattle.fields.specs.Codec.{all_fit}
use Rattle.fields.proofs.Laws.{each}
use Rattle.record.specs.declared.board.Version.TheVariants.{One}
use Rattle.record.specs.Board.{Polygon, limits_of, polygon, Board, board}
use Rattle.record.specs.Rows.{polygon_row}
use Rattle.record.proofs.Rounds.{polygon_fits, board_fits, record_found}
use Rattle.leafnet_text.specs.Boards.{AreNarrow}

polygons_narrow : (ps : List Polygon) → all_fit (λ (_ : Unit {0}). polygon (limits_of One)) (λ _. tt) tt ps ≡ true → AreNarrow (map polygon_row ps)
unfolding all_fit
polygons_narrow [] fits = record { layer = All-nil (λ row. get_or row 0 0 < 2 ^ 16); component = All-nil (λ row. get_or row 1 0 < 2 ^ 32) }
polygons_narrow (p ∷ ps) fits =
    let f = each ((polygon (limits_of One)).fits p) _ fits in
    let here = polygon_fits (limits_of One) p f.0 in
    let rest = polygons_narrow ps f.1 in
    record {
      layer = All-cons (λ row. get_or row 0 0 < 2 ^ 16) (polygon_row p) (map polygon_row ps) here.layer rest.layer;
      component = All-cons (λ row. get_or row 1 0 < 2 ^ 32) (polygon_row p) (map polygon_row ps) here.component rest.component;
    }

-- the law
pub record-narrow : (s : List ℕ) → ((i : ℕ) → get_or s i 0 < 256) → (b : Board) → board s ≡ Ok b → AreNarrow (map polygon_row b.polygons)
record-narrow s bytes b read = polygons_narrow b.polygons (board_fits b (record_found s b bytes read)).polygons
