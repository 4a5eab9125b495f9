-- The rules' table of ranges, for the contracts. src/limits.rt has the same for the code, and the law
-- `laws::ranges_of_the_rules` holds each constant there to its number here.
use Rattle.std.specs.Prelude.{ℕ, ◌^◌, false, Float}
use Rattle.std.specs.Float.Ieee as Ieee
use Rattle.std.specs.Float.{binary64}

-- a coordinate lies from -coordinate to coordinate
abbrev pub coordinate : ℕ
coordinate = 2 ^ 36

abbrev pub widest_level : ℕ
widest_level = 12

abbrev pub max_cap : ℕ
max_cap = 256

-- the target cell, and a layer's cell
abbrev pub max_cell : ℕ
max_cell = 2 ^ 36

abbrev pub max_layers : ℕ
max_layers = 64

abbrev pub max_polygons : ℕ
max_polygons = 256

abbrev pub max_points : ℕ
max_points = 1024

abbrev pub max_slots : ℕ
max_slots = 16384

-- a sheet resistance lies from 2^-40 to 2^40, and a link's resistance too
abbrev pub sheet_low : Float
sheet_low = Ieee.round binary64 false 1 (2 ^ 40)

abbrev pub sheet_high : Float
sheet_high = Ieee.round binary64 false (2 ^ 40) 1

-- the same as binary64 bits
abbrev pub sheet_low_bits : ℕ
sheet_low_bits = 0x3d70_0000_0000_0000

abbrev pub sheet_high_bits : ℕ
sheet_high_bits = 0x4270_0000_0000_0000

-- a potential lies from -peak to peak
abbrev pub peak : Float
peak = Ieee.round binary64 false (2 ^ 20) 1

-- what 255 for max_level means in a board record
abbrev pub default_level : ℕ
default_level = 4
