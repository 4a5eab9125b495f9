-- The rules' board record: one description of each field, over what a version allows.
use Rattle.std.specs.Prelude.{ℕ, ◌-◌, ◌^◌, List, ◌∷◌, ◌++◌, length, Bool, true, Option, Some, None}
use Rattle.std.specs.Prelude.{nat_le, nat_lt, ◌==◌, Result, Ok, Err, ℤ, if◌then◌else◌}
use Rattle.std.specs.Option.{option_map_or}
use Rattle.std.specs.Int.{w8, w16, w32, w64, to_be_bytes}
use Rattle.refusals.specs.declared.Refusal.{Refusal}
use Rattle.refusals.specs.declared.Refusal.TheVariants.{WrongVersion, WrongLength, OutOfRange}
use Rattle.refusals.specs.Limits.{widest_level, max_cap, max_cell, max_layers, max_polygons, max_points}
use Rattle.refusals.specs.Limits.{sheet_low_bits, sheet_high_bits, default_level}
use Rattle.cell.specs.Ticks.{in_range}
use Rattle.fields.specs.Cursor.{start, ◌>>=◌, require, number}
use Rattle.fields.specs.Codec.{Codec, any, tested, ranged, signed, pair, named, chained, counted}
use Rattle.record.specs.declared.board.Version.{Version}
use Rattle.record.specs.declared.board.Version.TheVariants.{One}
use Rattle.record.specs.declared.board.Limits.{Limits}
pub use Rattle.record.specs.declared.board.Settings.{Settings}
-- an entry of the layer list; a point of a ring
pub use Rattle.record.specs.declared.board.Entry.{Entry}
pub use Rattle.record.specs.declared.board.Point.{Point}

-- a polygon. Its r_sheet is kept as the bits of a binary64 number
pub record Polygon : Type 0 where
  pub layer : ℕ
  pub component : ℕ
  pub sheet : ℕ
  pub points : List Point

pub record Board : Type 0 where
  pub settings : Settings
  pub layers : List Entry
  pub polygons : List Polygon
  pub splits : List ℕ

-- ---- versions

abbrev pub version_byte : Version → ℕ
version_byte One = 1

abbrev pub version_of : ℕ → Result Version Refusal
version_of byte = if byte == 1 then Ok One else Err WrongVersion

-- the rules' table of ranges
abbrev pub limits_of : Version → Limits
limits_of One =
    record {
      max_level = widest_level;
      cap = max_cap;
      cell = max_cell;
      layers = max_layers;
      polygons = max_polygons;
      ring_points = max_points;
    }

-- ---- "max_level (8 bits; 255 here means the default, 4); cap (16); target (64)"

abbrev pub means_default : ℕ
means_default = 255

abbrev pub level : ℕ → Codec ℕ
level most = record {
  spelling = to_be_bytes w8;
  fits = λ n. nat_le n most;
  reading = λ c. number w8 c >>= λ n.
      if n.0 == means_default then Ok (default_level, n.1) else require (nat_le n.0 most) (OutOfRange c.at) (Ok n);
}

abbrev pub settings : Limits → Codec Settings
settings l =
    named (λ g. record { level = g.0; cap = g.1.0; target = g.1.1 }) (λ g. (g.level, (g.cap, g.target)))
    (pair (level l.max_level) (pair (ranged w16 1 l.cap) (ranged w64 1 l.cell)))

-- ---- "layer-list count (16), entries layer (16) and cell (64)"

-- "layer numbers rising strictly": above the last one, if there is one
abbrev pub is_above : Option ℕ → ℕ → Bool
is_above last n = option_map_or (λ l. nat_lt l n) last true

abbrev pub layer : Option ℕ → Codec ℕ
layer last = tested (is_above last) (any w16)

abbrev pub entry : Limits → Option ℕ → Codec Entry
entry l last =
    named (λ e. record { layer = e.0; cell = e.1 }) (λ e. (e.layer, e.cell))
    (pair (layer last) (ranged w64 0 l.cell))

abbrev pub layer_list : Limits → Codec (List Entry)
layer_list l = chained w16 l.layers (entry l) (λ e. Some e.layer) None

-- ---- "polygon count (16), each layer (16), component (32), r_sheet as binary64 bits (64), point count (16), points as
-- signed 64-bit x and y"

abbrev pub coordinate : Codec ℤ
coordinate = signed in_range

abbrev pub point : Codec Point
point = named (λ p. record { x = p.0; y = p.1 }) (λ p. (p.x, p.y)) (pair coordinate coordinate)

-- r_sheet lies from 2^-40 to 2^40. The bits of positive binary64 numbers rise with the numbers
unfoldable pub polygon : Limits → Codec Polygon
polygon l =
    named (λ p. record { layer = p.0; component = p.1.0; sheet = p.1.1.0; points = p.1.1.1 })
    (λ p. (p.layer, (p.component, (p.sheet, p.points))))
    (pair (any w16) (pair (any w32)
    (pair (ranged w64 sheet_low_bits sheet_high_bits) (counted w16 l.ring_points point))))

abbrev pub polygon_list : Limits → Codec (List Polygon)
polygon_list l = counted w16 l.polygons (polygon l)

-- ---- "split count (16) and cell ids (32)"

abbrev pub split_list : Codec (List ℕ)
split_list = counted w16 (2 ^ 16 - 1) (any w32)

-- ---- all that follows the length, and a whole record

unfoldable pub body : Limits → Codec Board
body l =
    named (λ b. record { settings = b.0; layers = b.1.0; polygons = b.1.1.0; splits = b.1.1.1 })
    (λ b. (b.settings, (b.layers, (b.polygons, b.splits))))
    (pair (settings l) (pair (layer_list l) (pair (polygon_list l) split_list)))

-- "version 1 (8 bits); 32-bit length of all that follows". Refusal 1 has no place; 2 for a length that "differs from
-- the bytes behind it" has the length's; 2 for what remains behind the last list has its offset
unfoldable pub board : List ℕ → Result Board Refusal
board bytes = do
  first ← number w8 (start bytes)
  version ← version_of first.0
  n ← number w32 first.1
  require (n.0 == length n.1.rest) (WrongLength first.1.at)
      ((body (limits_of version)).reading n.1 >>= λ b. require (length b.1.rest == 0) (WrongLength b.1.at) (Ok b.0))

-- the bytes of a board's record
unfoldable pub record_of : Version → Board → List ℕ
record_of v b = let text = (body (limits_of v)).spelling b in version_byte v ∷ to_be_bytes w32 (length text) ++ text

-- a board whose values are all in the rules' table
abbrev pub is_in_range : Board → Bool
is_in_range = (body (limits_of One)).fits

-- how many points a polygon has
abbrev pub points_in : Polygon → ℕ
points_in p = length p.points
