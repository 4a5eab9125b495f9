-- What the contract of `cell_power` comes to: the laws that src/laws.rt promises. Definitions only.
use Rattle.std.specs.Prelude.{ℕ, ◌<◌, ◌≡◌, List, [], length, slice_index_or, IsTrue, Float, Result}
use Rattle.std.specs.Float.{nan}
use Rattle.refusals.specs.declared.Refusal.{Refusal}
use Rattle.refusals.specs.Said.{accepted}
use Rattle.floats.specs.Fractions.{nonneg}
use Rattle.net_rows.specs.declared.rows.Node.{Node}
use Rattle.net_rows.specs.declared.rows.Edge.{Edge}
use Rattle.net_rows.specs.declared.rows.NetCell.{NetCell}
use Rattle.power.specs.Powers.{power_said, power_says, power_row}

-- after an accepted call each cell has a power in the row, which is no NaN and not negative
abbrev pub PowersAreNonNegative : Type 0
PowersAreNonNegative =
    (nodes : List Node) (edges : List Edge) (cells : List NetCell) (potentials lent : List Float)
    → power_says nodes edges cells potentials lent ≡ accepted []
    → (cell : ℕ) → cell < length cells → IsTrue (nonneg (slice_index_or (power_row nodes edges cells potentials lent) cell nan))

-- two answers that are permitted are one, and so are two contents of the row
abbrev pub OneAnswer : Type 0
OneAnswer =
    (nodes : List Node) (edges : List Edge) (cells : List NetCell) (potentials lent : List Float) (answer other : Result Unit Refusal)
    → power_said answer ≡ power_says nodes edges cells potentials lent
    → power_said other ≡ power_says nodes edges cells potentials lent
    → answer ≡ other

abbrev pub OneContent : Type 0
OneContent =
    (nodes : List Node) (edges : List Edge) (cells : List NetCell) (potentials lent left other : List Float)
    → left ≡ power_row nodes edges cells potentials lent
    → other ≡ power_row nodes edges cells potentials lent
    → left ≡ other
