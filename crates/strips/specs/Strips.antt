-- The rules' "Rings to roots", as far as the strips.
use Rattle.std.specs.Prelude.{ℕ, ◌&&◌, List, [], ◌∷◌, map, length, drop, zip, flat_map, ℤ, if◌then◌else◌, nat_eq, nat_lt}
use Rattle.std.specs.List.{dedup, filter, range_with_len}
use Rattle.strips.specs.Sorted.{sorted}
use Rattle.strips.specs.Rings.{x_at, y_at, edge_at, vertical, reaches}
use Rattle.strips.specs.declared.walk.Strip.{Strip}

-- "the distinct y values in rising order"
unfoldable pub levels : List (List ℤ) → List ℕ
levels ps = dedup nat_eq (sorted (map (y_at ps) (range_with_len 0 (length ps))))

-- "in a band the x values of the vertical ring edges spanning it, sorted"
unfoldable pub crossings : List (List ℤ) → ℕ → ℕ → List ℕ
crossings ps lo hi =
    sorted (map (x_at ps)
    (filter (λ i. vertical (edge_at ps i) && reaches lo hi (edge_at ps i)) (range_with_len 0 (length ps))))

-- they "pair up into strips; those of no width are dropped"
unfoldable pub pair_up : ℕ → ℕ → List ℕ → List Strip
pair_up lo hi [] = []
pair_up lo hi (a ∷ []) = []
pair_up lo hi (a ∷ b ∷ l) =
    if nat_lt a b then record { x0 = a; y0 = lo; x1 = b; y1 = hi } ∷ pair_up lo hi l
    else pair_up lo hi l

-- the bands between neighbouring levels of a list
abbrev pub bands : List ℕ → List (ℕ × ℕ)
bands levels = zip levels (drop 1 levels)

-- the strips of the bands that a list of levels bounds: by band, then left to right
unfoldable pub banded : List (List ℤ) → List ℕ → List Strip
banded ps levels = flat_map (λ b. pair_up b.0 b.1 (crossings ps b.0 b.1)) (bands levels)

-- "fewer than 3 points": none
unfoldable pub strips_of : List (List ℤ) → List Strip
strips_of ps = if nat_lt (length ps) 3 then [] else banded ps (levels ps)
