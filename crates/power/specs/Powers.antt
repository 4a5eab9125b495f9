-- What the power call says, and what the row of answers holds afterwards.
use Rattle.std.specs.Prelude.{ℕ, Bool, ◌&&◌, ◌==◌, nat_le, if◌then◌else◌, List, [], map, length, slice_index_or, Float, Result}
use Rattle.std.specs.Float.{nan}
use Rattle.std.specs.List.{list_all}
use Rattle.refusals.specs.declared.Refusal.{Refusal}
use Rattle.refusals.specs.declared.Refusal.TheVariants.{OutOfRange, NoRoom, BadTable}
use Rattle.refusals.specs.Said.{Said, accepted, refusal, said, is_accepted}
use Rattle.cell.specs.Ticks.{metres_of}
use Rattle.floats.specs.Fractions.{in_sheet, in_potential}
use Rattle.net_rows.specs.declared.rows.Node.{Node}
use Rattle.net_rows.specs.declared.rows.Edge.{Edge}
use Rattle.net_rows.specs.declared.rows.NetCell.{NetCell}
use Rattle.refusals.specs.Said.{written}
use Rattle.net_rows.specs.Nets.{width_of, height_of, sound_net}
use Rattle.power.specs.declared.Values.{Values}
use Rattle.power.specs.declared.Slope.{Slope}
use Rattle.power.specs.Formulas.{slope_of, power_of}

abbrev pub value_at : List Float → ℕ → Float
value_at row i = slice_index_or row i nan

-- what the slopes of a cell are worked out from: potentials at SW, SE, NE, NW, and the sides in ticks
unfoldable pub cell_values : List Node → List Float → NetCell → Values
cell_values nodes potentials c = record {
  u0 = value_at potentials c.corners.southwest;
  u1 = value_at potentials c.corners.southeast;
  u2 = value_at potentials c.corners.northeast;
  u3 = value_at potentials c.corners.northwest;
  width = width_of nodes c;
  height = height_of nodes c;
}

-- its slopes and extents
unfoldable pub cell_slope : List Node → List Float → NetCell → Slope
cell_slope nodes potentials c =
    let v = cell_values nodes potentials c in slope_of v.u0 v.u1 v.u2 v.u3 (metres_of v.width) (metres_of v.height)

unfoldable pub cell_power : List Node → List Float → NetCell → Float
cell_power nodes potentials c = power_of (cell_slope nodes potentials c) c.sheet

-- refusal 3: a potential count unlike the node count, a potential out of range, a cell's r_sheet out of range
unfoldable pub in_ranges : List Node → List NetCell → List Float → Bool
in_ranges nodes cells potentials =
    (length potentials == length nodes) && list_all in_potential potentials && list_all (λ c. in_sheet c.sheet) cells

-- an answer's number and values
abbrev pub power_said : Result Unit Refusal → Said
power_said = said (λ u. [])

-- the rules: "Power: 7, 3 (a cell's r_sheet too, place 0), 6", where 6 is fewer answers than cells
unfoldable pub power_says : List Node → List Edge → List NetCell → List Float → List Float → Said
power_says nodes edges cells potentials answers =
    if sound_net nodes edges cells then
    (if in_ranges nodes cells potentials then
    (if nat_le (length cells) (length answers) then accepted [] else refusal NoRoom)
    else refusal (OutOfRange 0))
    else refusal BadTable

-- the powers of the cells in order and behind them what the row held; a refused call changes nothing
unfoldable pub power_row : List Node → List Edge → List NetCell → List Float → List Float → List Float
power_row nodes edges cells potentials answers =
    if is_accepted (power_says nodes edges cells potentials answers)
    then written (map (cell_power nodes potentials) cells) answers
    else answers
