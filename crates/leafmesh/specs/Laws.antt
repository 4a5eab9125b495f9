-- The contract of an exported call gives its whole answer, so it permits one: the laws that src/laws.rt promises. Definitions only.
use Rattle.std.specs.Prelude.{◌≡◌}
use Rattle.refusals.specs.Said.{Said}
use Rattle.leafmesh.specs.declared.Outcome.{Outcome}
use Rattle.leafmesh.specs.declared.BorderOutcome.{BorderOutcome}
use Rattle.leafmesh.specs.declared.TableOutcome.{TableOutcome}
use Rattle.leafmesh.specs.declared.boards.ReadOutcome.{ReadOutcome}
use Rattle.leafmesh.specs.declared.nets.NetOutcome.{NetOutcome}
use Rattle.leafmesh.specs.declared.nets.CheckOutcome.{CheckOutcome}
use Rattle.cell.specs.Contact.{contact_says}
use Rattle.cell.specs.declared.rectangles.Rect.{Rect}
use Rattle.leafmesh.specs.Outcome.{outcome_of, border_outcome_of, head_outcome_of, evening_outcome_of}
use Rattle.leafmesh.specs.Reads.{read_outcome_of}
use Rattle.leafmesh.specs.Nets.{net_outcome_of, check_outcome_of}

-- whatever is to be said, two outcomes that are permitted are one
abbrev pub OneOutcome : Type 0
OneOutcome = (what : Said) (answer other : Outcome) → answer ≡ outcome_of what → other ≡ outcome_of what → answer ≡ other

abbrev pub OneBorderOutcome : Type 0
OneBorderOutcome =
    (what : Said) (answer other : BorderOutcome)
    → answer ≡ border_outcome_of what → other ≡ border_outcome_of what → answer ≡ other

-- what contact says can be read off the outcome: none, a border and a refusal are never told alike
abbrev pub BorderOutcomeTells : Type 0
BorderOutcomeTells =
    (a b c d : Rect)
    → border_outcome_of (contact_says a b) ≡ border_outcome_of (contact_says c d) → contact_says a b ≡ contact_says c d

abbrev pub OneTableOutcome : Type 0
OneTableOutcome =
    (what : Said) (answer other : TableOutcome)
    → (answer ≡ head_outcome_of what → other ≡ head_outcome_of what → answer ≡ other)
    × (answer ≡ evening_outcome_of what → other ≡ evening_outcome_of what → answer ≡ other)

abbrev pub OneReadOutcome : Type 0
OneReadOutcome = (what : Said) (answer other : ReadOutcome) → answer ≡ read_outcome_of what → other ≡ read_outcome_of what → answer ≡ other

abbrev pub OneNetOutcome : Type 0
OneNetOutcome = (what : Said) (answer other : NetOutcome) → answer ≡ net_outcome_of what → other ≡ net_outcome_of what → answer ≡ other

abbrev pub OneCheckOutcome : Type 0
OneCheckOutcome = (what : Said) (answer other : CheckOutcome) → answer ≡ check_outcome_of what → other ≡ check_outcome_of what → answer ≡ other
