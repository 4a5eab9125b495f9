-- The rules' rooms of `leafnet`, and the rows that it lends to the calls.
use Rattle.std.specs.Prelude.{ℕ, ◌*◌, pos, replicate}
use Rattle.std.specs.Float.{binary64}
use Rattle.std.specs.Float.Ieee.{of_bits}
use Rattle.record.specs.Rows as Record
use Rattle.net_rows.specs.declared.rows.Corners.{Corners}
use Rattle.network.specs.Says as Network

-- bytes of input
abbrev pub input_room : ℕ
input_room = 16384

abbrev pub slot_room : ℕ
slot_room = 64

abbrev pub layer_room : ℕ
layer_room = 64

abbrev pub polygon_room : ℕ
polygon_room = 256

abbrev pub point_room : ℕ
point_room = 1024

abbrev pub split_room : ℕ
split_room = 256

abbrev pub leaf_room : ℕ
leaf_room = 64

-- a table's numbers
abbrev pub table_room : ℕ
table_room = slot_room * 8

-- the rows that a record is read to
abbrev pub record_rows : Record.Rows
record_rows =
    Record.rows_of (replicate layer_room (replicate 2 0)) (replicate polygon_room (replicate 3 0)) (replicate polygon_room (of_bits binary64 0))
    (replicate point_room (replicate 2 (pos 0))) (replicate split_room 0)

abbrev no_corners : Corners
no_corners = record { southwest = 0; southeast = 0; northeast = 0; northwest = 0 }

-- the rows of a net of as many leaves as there is room for, and the work room
abbrev pub net_rows : Network.Rows
net_rows =
    Network.rows (replicate (4 * leaf_room) (record { layer = 0; component = 0; x = pos 0; y = pos 0 }))
    (replicate (8 * leaf_room) (record { from = 0; to = 0; conductance = of_bits binary64 0 }))
    (replicate leaf_room (record { corners = no_corners; sheet = of_bits binary64 0 })) (replicate (64 * leaf_room) 0)
