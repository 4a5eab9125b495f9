-- What `check` and `read` say, and what `read` leaves in the lent rows.
use Rattle.std.specs.Prelude.{ℕ, List, [], ◌∷◌, Bool, ◌&&◌, nat_le, length, Result, Ok, Err}
use Rattle.refusals.specs.declared.Refusal.{Refusal}
use Rattle.refusals.specs.declared.Refusal.TheVariants.{NoRoom}
use Rattle.refusals.specs.Said.{Said, said}
use Rattle.fields.specs.Cursor.{◌>>=◌, require}
use Rattle.record.specs.declared.board.Settings.{Settings}
use Rattle.record.specs.declared.board.Counts.{Counts}
use Rattle.record.specs.declared.board.Read.{Read}
use Rattle.record.specs.Board.{Board, board}
use Rattle.record.specs.Rows.{Rows, filled, rings}

-- the rows that a board takes
abbrev pub counts_of : Board → Counts
counts_of b =
    record {
      layers = length b.layers;
      polygons = length b.polygons;
      points = length (rings b.polygons);
      splits = length b.splits;
    }

abbrev pub summary_of : Board → Read
summary_of b = record { settings = b.settings; counts = counts_of b }

-- what the check of a record answers
abbrev pub checked : Result Board Refusal → Result Read Refusal
checked (Ok b) = Ok (summary_of b)
checked (Err e) = Err e

-- an accepted record in numbers: the settings and the counts
abbrev pub numbers : Settings → Counts → List ℕ
numbers g n = g.level ∷ g.cap ∷ g.target ∷ n.layers ∷ n.polygons ∷ n.points ∷ n.splits ∷ []

-- an answer by its number and place
abbrev pub read_said : Result Read Refusal → Said
read_said = said (λ r. numbers r.settings r.counts)

abbrev pub says : Result Board Refusal → Said
says = said (λ b. numbers b.settings (counts_of b))

-- the rules, "too little room", for the reader: "a row shorter than the record's count"
abbrev pub has_room : Rows → Counts → Bool
has_room rows n =
    nat_le n.layers (length rows.layers)
    && (nat_le n.polygons (length rows.polygons)
    && (nat_le n.polygons (length rows.sheets)
    && (nat_le n.points (length rows.points) && nat_le n.splits (length rows.splits))))

-- the board of a record that is read to these rows, or the refusal: "1, then 2 and 3 in byte order, .., then 6"
unfoldable pub reading : List ℕ → Rows → Result Board Refusal
reading bytes rows = board bytes >>= λ b. require (has_room rows (counts_of b)) NoRoom (Ok b)

-- a refused read has written nothing
abbrev pub leaves : Rows → Result Board Refusal → Rows
leaves rows (Ok b) = filled rows b
leaves rows (Err e) = rows

abbrev pub read_says : List ℕ → Rows → Said
read_says bytes rows = says (reading bytes rows)

abbrev pub read_leaves : List ℕ → Rows → Rows
read_leaves bytes rows = leaves rows (reading bytes rows)
