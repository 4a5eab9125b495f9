-- How the code goes over a ring: the y values and the vertical edges are put in order once; each band then takes from
-- the edges, in their order, those that span it. Internal: the public promise is about Strips alone.
use Rattle.std.specs.Prelude.{ℕ, ◌+◌, ◌*◌, ◌/◌, ◌%◌, ◌<◌, ◌≤◌, ◌≡◌, ◌⊎◌, Bool, ◌&&◌, List, [], ◌∷◌, ◌++◌, map}
use Rattle.std.specs.Prelude.{length, take, drop, ℤ, Option, None, Some, if◌then◌else◌, nat_lt, slice_index}
use Rattle.refusals.specs.Limits.{coordinate, max_points}
use Rattle.std.specs.List.{filter, flat_map, range_with_len}
use Rattle.strips.specs.Sorted.{sorted}
use Rattle.strips.specs.Rings.{x_at, y_at, after, edge_at, vertical, reaches}
use Rattle.strips.specs.Levels.{level_at, crosses}
use Rattle.strips.specs.Strips.{levels, pair_up, bands}
use Rattle.strips.specs.declared.walk.Strip.{Strip}
use Rattle.strips.specs.declared.walk.Step.{Step}

-- a vertical edge as one number: by x, then by its first point
abbrev pub key_of : List (List ℤ) → ℕ → ℕ
key_of ps i = x_at ps i * max_points + i

abbrev pub vertical_at : List (List ℤ) → ℕ → Bool
vertical_at ps i = vertical (edge_at ps i)

unfoldable pub unsorted_edges : List (List ℤ) → ℕ → List ℕ
unsorted_edges ps n = map (key_of ps) (filter (vertical_at ps) (range_with_len 0 n))

unfoldable pub edges_of : List (List ℤ) → List ℕ
edges_of ps = sorted (unsorted_edges ps (length ps))

-- a list stands at the front of a row, and this is its length
pub record Gathered (l row : List ℕ) (n : ℕ) : Type 0 where
  pub front : take n row ≡ l
  pub count : n ≡ length l
  pub fits : n ≤ length row

-- both rows of a ring are ready, with k heights and m vertical edges
pub record Prepared (ps : List (List ℤ)) (hs es : List ℕ) (k m : ℕ) : Type 0 where
  pub heights : Gathered (levels ps) hs k
  pub edges : Gathered (edges_of ps) es m

-- each edge of a list begins at one of n points
abbrev pub BeginAtPoints : ℕ → List ℕ → Type 0
BeginAtPoints n es = (k : ℕ) → k < length es → slice_index es k % max_points < n

-- no point of the ring lies inside the band from lo to hi, which has a height and is in range
pub record IsBand (ps : List (List ℤ)) (lo hi : ℕ) : Type 0 where
  pub tall : lo < hi
  pub in_range : hi ≤ coordinate + coordinate
  pub clear : (i : ℕ) → i < length ps → (y_at ps i ≤ lo) ⊎ (hi ≤ y_at ps i)

-- an edge spans a band
unfoldable pub spans : List (List ℤ) → ℕ → ℕ → ℕ → Bool
spans ps lo hi e = nat_lt lo hi && reaches lo hi (edge_at ps (e % max_points))

-- the x values of those edges of a list that span a band
unfoldable pub crossed : List (List ℤ) → ℕ → ℕ → List ℕ → List ℕ
crossed ps lo hi es = map (λ e. e / max_points) (filter (spans ps lo hi) es)

-- the strips of one band
abbrev pub in_band : List (List ℤ) → ℕ → ℕ → List ℕ → List Strip
in_band ps lo hi es = pair_up lo hi (crossed ps lo hi es)

-- an edge goes from low, or below, to above it, or the other way, as lent
abbrev pub crosses_at : List (List ℤ) → ℤ → ℕ → Bool
crosses_at ps low e =
    crosses low (level_at ps (e % max_points)) (level_at ps (after ps (e % max_points)))

-- the edges at a and b are the first two from j on that span the band
pub record IsNextPair (ps : List (List ℤ)) (lo hi : ℕ) (es : List ℕ) (j a b : ℕ) : Type 0 where
  pub later : j ≤ a
  pub rising : a < b
  pub within : b < length es
  pub same :
      crossed ps lo hi (drop j es)
      ≡ slice_index es a / max_points ∷ slice_index es b / max_points ∷ crossed ps lo hi (drop (b + 1) es)

-- they are these, or fewer than two span it
abbrev pub FindsPair : List (List ℤ) → ℕ → ℕ → List ℕ → ℕ → Option (ℕ × ℕ) → Type 0
FindsPair ps lo hi es j None = in_band ps lo hi (drop j es) ≡ []
FindsPair ps lo hi es j (Some pair) = IsNextPair ps lo hi es j pair.0 pair.1

-- the strips of all bands between neighbouring heights
unfoldable pub walked : List (List ℤ) → List ℕ → List ℕ → List Strip
walked ps es hs = flat_map (λ b. pair_up b.0 b.1 (crossed ps b.0 b.1 es)) (bands hs)

-- the strips that are left where the first band has got as far as the edge at j
unfoldable pub left : List (List ℤ) → List ℕ → ℕ → List ℕ → List Strip
left ps es j [] = []
left ps es j (lo ∷ []) = []
left ps es j (lo ∷ hi ∷ hs) = pair_up lo hi (crossed ps lo hi (drop j es)) ++ walked ps es (hi ∷ hs)

-- the strips of a ring of at least 3 points
unfoldable pub all_of : List (List ℤ) → List ℕ → List ℕ → List Strip
all_of ps hs es = if nat_lt (length ps) 3 then [] else walked ps es hs

-- the band to start with: the end where there are too few points
abbrev pub start_band : List (List ℤ) → List ℕ → ℕ
start_band ps hs = if nat_lt (length ps) 3 then length hs else 0

-- the strips from a step on
abbrev pub ahead : List (List ℤ) → List ℕ → List ℕ → Option Step → List Strip
ahead ps hs es None = []
ahead ps hs es (Some step) = step.strip ∷ left ps es step.edge (drop step.band hs)

-- a ring within the limit, and work rows that it fits
pub record Roomy (ps : List (List ℤ)) (hs es : List ℕ) : Type 0 where
  pub few : length ps ≤ max_points
  pub heights : length ps ≤ length hs
  pub edges : length ps ≤ length es

-- a ring of at most so many points has short work rows
abbrev pub few_points : ℕ
few_points = 16

-- a strip has a positive width and height and lies in the frame of coordinates
pub record Sound (s : Strip) : Type 0 where
  pub wide : s.x0 < s.x1
  pub tall : s.y0 < s.y1
  pub right : s.x1 ≤ coordinate + coordinate
  pub top : s.y1 ≤ coordinate + coordinate

-- what `prepare` has made ready of a ring within the limit
pub record Ready (ps : List (List ℤ)) (hs es : List ℕ) : Type 0 where
  pub few : length ps ≤ max_points
  pub heights : hs ≡ levels ps
  pub edges : es ≡ edges_of ps
