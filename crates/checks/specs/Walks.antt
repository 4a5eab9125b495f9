-- The faults that a walk finds that looks at some sides of the leaves alone, and the earlier of two. Internal: what two
-- such walks find together is the answer of Checks.
use Rattle.std.specs.Prelude.{ℕ, ◌≡◌, Bool, true, false, ◌==◌, ◌&&◌, ◌||◌, if◌then◌else◌, nat_lt, IsTrue, List, [], ◌∷◌, slice_get, ℤ, Option, None, Some}
use Rattle.std.specs.List.{filter_map}
use Rattle.std.specs.Option.{option_map}
use Rattle.cell.specs.declared.Cell.{Cell}
use Rattle.table.specs.declared.Head.{Head}
use Rattle.table.specs.Slots.{cell_at}
use Rattle.table.specs.Rows.{leaves_in}
use Rattle.net_rows.specs.declared.rows.Node.{Node}
use Rattle.net_rows.specs.declared.rows.Edge.{Edge}
use Rattle.net_rows.specs.declared.axis.Axis.{Axis}
use Rattle.net_rows.specs.declared.axis.Axis.TheVariants.{Column, Row}
use Rattle.checks.specs.declared.asked.Class.{Class}
use Rattle.checks.specs.declared.asked.Class.TheVariants.{Of}
use Rattle.checks.specs.declared.asked.Scope.{Scope}
use Rattle.checks.specs.declared.asked.Scope.TheVariants.{Everywhere, ByLayer}
use Rattle.checks.specs.declared.asked.Side.{Side}
use Rattle.checks.specs.declared.asked.Hanging.{Hanging}
use Rattle.checks.specs.declared.walk.Sides.{Sides}
use Rattle.checks.specs.declared.walk.Sides.TheVariants.{All, Along}
use Rattle.checks.specs.declared.walk.Found.{Found}
use Rattle.checks.specs.Sides.{south, east, north, west}
use Rattle.checks.specs.Checks.{side_fault}

abbrev pub same_axis : Axis → Axis → Bool
same_axis Column Column = true
same_axis Column Row = false
same_axis Row Column = false
same_axis Row Row = true

-- sides along such an axis are looked at
abbrev pub have : Sides → Axis → Bool
have All axis = true
have (Along own) axis = same_axis own axis

-- which a walk looks at, where nodes are in order along an axis
abbrev pub sides_along : Scope → Axis → Sides
sides_along Everywhere axis = All
sides_along (ByLayer polygons) axis = Along axis

-- wherever nodes of a layer and component are looked for, along such a side, G holds of its axis
abbrev pub GoesAlong : (Axis → Type 0) → Class → Sides → Type 0
GoesAlong G class sides =
    (layer component : ℕ) (axis : Axis) → class ≡ Of layer component → IsTrue (have sides axis) → G axis

-- what a side lacks, if it is looked at
unfoldable pub side_found : List Node → List Edge → Class → Sides → Side → Option Hanging
side_found nodes edges class sides s = if have sides s.axis then side_fault nodes edges class s else None

-- the first of what the sides of a leaf lack, and which side that is
unfoldable pub leaf_found : List Node → List Edge → Class → Sides → Cell → Option (ℕ × Hanging)
leaf_found nodes edges class sides c =
    slice_get (filter_map (λ (s : ℕ × Side). option_map (λ h. (s.0, h)) (side_found nodes edges class sides s.1))
    ((0, south c) ∷ (1, east c) ∷ (2, north c) ∷ (3, west c) ∷ [])) 0

-- what was found on a leaf
abbrev pub found_on : ℕ → Option (ℕ × Hanging) → Option Found
found_on leaf o = option_map (λ (f : ℕ × Hanging). record { leaf = leaf; side = f.0; fault = f.1 }) o

-- and the first of what a table's leaves lack, by id
unfoldable pub first_found : (ℕ → Class) → Sides → List ℤ → Head → List Node → List Edge → Option Found
first_found class sides t head nodes edges =
    slice_get (filter_map (λ id. found_on id (leaf_found nodes edges (class (cell_at t id).poly) sides (cell_at t id)))
    (leaves_in t head)) 0

-- what was found, without where
abbrev pub fault_of : Option Found → Option Hanging
fault_of None = None
fault_of (Some a) = Some a.fault

abbrev pub comes_before : Found → Found → Bool
comes_before a b = nat_lt a.leaf b.leaf || (a.leaf == b.leaf && nat_lt a.side b.side)

-- the earlier of two finds, by leaf and then by side
abbrev pub earlier : Option Found → Option Found → Option Found
earlier None b = b
earlier (Some a) None = Some a
earlier (Some a) (Some b) = if comes_before b a then Some b else Some a
