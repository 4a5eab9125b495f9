-- Two boards of this repository, boards/neck.txt and boards/comb.txt: their rings are in pitch, so that the laws of
-- whole boards hold of them. Definitions only.
use Rattle.std.specs.Prelude.{ℕ, ◌*◌, ◌≡◌, ◌⊎◌, Bool, ◌&&◌, IsTrue, List, [], ◌∷◌, ℤ, pos, Float, length, All}
use Rattle.std.specs.List.{list_all, range_with_len}
use Rattle.std.specs.Float.{binary64}
use Rattle.std.specs.Float.Ieee.{of_bits}
use Rattle.table.specs.Mesh.{Cell}
use Rattle.coarsest.specs.Passes.{balance}
use Rattle.build.specs.Board.{Board, ring_at, polygons, size_at, strips_at}
use Rattle.build.specs.Laws.{Accepts}
use Rattle.net.specs.Net.{Poly, leaves_of, network}
use Rattle.laws.specs.Grids.{Splits}
use Rattle.laws.specs.Fit.{BoardFits}
use Rattle.laws.specs.Joined.{SidesJoined}
use Rattle.laws.specs.Built.{BuiltBoard, built, in_pitch, within_cap}

-- a point, in ticks
abbrev point : ℕ → ℕ → List ℤ
point x y = pos x ∷ pos y ∷ []

-- a board of one ring on layer 1, with a cap of 256 and no layer of a cell of its own
abbrev one_ring : ℕ → ℕ → List (List ℤ) → Board
one_ring max_level target points =
    record {
      settings = record { max_level = max_level; cap = 256; target = target };
      list = [];
      layers = 1 ∷ [];
      counts = length points ∷ [];
      points = points;
    }

-- boards/neck.record: the target is the pitch, 2 mm
unfoldable pub neck : Board
neck =
    one_ring 2 549755816
    (point 0 0 ∷ point 2199023264 0 ∷ point 2199023264 1099511632 ∷ point 1649267448 1099511632
    ∷ point 1649267448 2199023264 ∷ point 2199023264 2199023264 ∷ point 2199023264 3298534896 ∷ point 0 3298534896
    ∷ point 0 2199023264 ∷ point 549755816 2199023264 ∷ point 549755816 1099511632 ∷ point 0 1099511632 ∷ [])

-- boards/comb.record
unfoldable pub comb : Board
comb =
    one_ring 1 8
    (point 0 0 ∷ point 40 0 ∷ point 40 24 ∷ point 32 24 ∷ point 32 8 ∷ point 24 8 ∷ point 24 24 ∷ point 16 24
    ∷ point 16 8 ∷ point 8 8 ∷ point 8 24 ∷ point 0 24 ∷ [])

-- each ring of the board is in pitch, and no strip of it is wider or higher than the cap allows
unfoldable pub pitched : Board → Bool
pitched b =
    list_all
    (λ k.
    in_pitch (size_at b k) (ring_at b.counts b.points k)
    && within_cap b.settings.cap (size_at b k) (strips_at b k))
    (range_with_len 0 (polygons b))

-- the two samples are
abbrev pub SamplesInPitch : Type 0
SamplesInPitch = IsTrue (pitched neck) × IsTrue (pitched comb)

-- build accepts a board of one ring, of this sheet resistance, with so many roots in a table that just holds them
abbrev pub IsAccepted : Board → Float → ℕ → Type 0
IsAccepted b sheet roots = Accepts b (0 ∷ []) (sheet ∷ []) (roots * 8) roots

-- and the two samples it does: 0.0005 and 0.001 ohms a square
abbrev pub SamplesAccepted : Type 0
SamplesAccepted =
    IsAccepted neck (of_bits binary64 0x3f40624dd2f1a9fc) 20 × IsAccepted comb (of_bits binary64 0x3f50624dd2f1a9fc) 11

abbrev pub IsSample : Board → Type 0
IsSample b = (b ≡ neck) ⊎ (b ≡ comb)

-- so whatever call of build accepts one of them, its roots fit
abbrev pub SamplesFit : Type 0
SamplesFit = (b : BuiltBoard) (ps : List Poly) → IsSample b.board → length ps ≡ 1 → BoardFits (built b) ps

-- and refined in any way and balanced it has every side joined
abbrev pub SamplesAreJoined : Type 0
SamplesAreJoined =
    (b : BuiltBoard) (t : List Cell) (p : Poly) → IsSample b.board → Splits b.board.settings.max_level (built b) t
    → let u = balance b.board.settings.max_level t in
    All (SidesJoined (network u (p ∷ [])) p) (leaves_of u 0)
