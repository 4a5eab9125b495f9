use Rattle.std.proofs.Common.{rules, tests, ◌≡◌, refl, sym, ap, ◌∙◌, ℕ, Bool, List, length, arith, nat_lt}
use Rattle.std.specs.List.{list_all, range_with_len}
use Rattle.std.proofs.lemmas.Iterator.{YieldsList-from_range}
use Rattle.std.proofs.lemmas.Iterator.Search.{all_from_yields_List}
use Rattle.std.proofs.lemmas.List.Folds.{list_all-map}
use Rattle.std.proofs.lemmas.Simd.{pick_l_whole}
use Rattle.table.specs.Mesh.{Cell, at, past}
use Rattle.table.specs.Tables.{cells}
use Rattle.table.proofs.Cells.{length-table}
use Rattle.net_rows.specs.Polygons.{polygons_below}
use Rattle.net_rows.proofs.polygons.polygons_below.Goals as goal

abbrev below : ℕ → List Cell → ℕ → Bool
below count xs i = nat_lt (at xs i).polygon count

-- the cells one by one
in-cells : (count : ℕ) (xs : List Cell) (n : ℕ) → length xs ≡ n → list_all (below count xs) (range_with_len 0 n) ≡ polygons_below count xs
in-cells count xs n e =
    let p : Cell → Bool = λ x. nat_lt x.polygon count in
    sym (list_all-map p (at xs) (range_with_len 0 n)) ∙ ap (list_all p) (pick_l_whole past xs n e)

pub returns : goal.returns
returns c =
    let t = c.args.table.now in
    all_from_yields_List (below c.args.count (cells t)) _ _ _ c.all.ensures.ran
    (YieldsList-from_range 0 t.head.count t.head.count refl (omega arith))
    (λ x b q k. search (rules, tests))
    ∙ in-cells c.args.count (cells t) t.head.count (length-table t.row.now t.head.count)
