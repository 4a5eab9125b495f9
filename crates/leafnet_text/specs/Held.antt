-- What is held of a record that was read.
use Rattle.std.specs.Prelude.{take}
use Rattle.leafnet_text.specs.declared.input.Rows.{Rows}
use Rattle.leafnet_text.specs.declared.input.Board.{Board}
use Rattle.leafnet_text.specs.Boards.{Given, given, settings_of, column}

-- what the rows give, each up to its count
abbrev pub given_in : Rows → Given
given_in r =
    let n = r.read.counts in
    let polygons = take n.polygons r.polygons in
    given (settings_of r.read.settings) (take n.layers r.list) (column 0 polygons) (column 1 polygons) (take n.polygons r.sheets) (column 2 polygons)
    (take n.points r.points) (take n.splits r.splits)

-- what the board gives that is made of them
abbrev pub given_of : Board → Given
given_of b =
    let rows = b.rows in
    let n = rows.read.counts in
    given (settings_of rows.read.settings) (take n.layers rows.list) b.layers.items b.components.items (take n.polygons rows.sheets) b.counts.items
    (take n.points rows.points) (take n.splits rows.splits)
