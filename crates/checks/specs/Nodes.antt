-- Nodes by their place, and edges by their ends.
use Rattle.std.specs.Prelude.{ℕ, Bool, true, ◌==◌, ◌&&◌, ◌||◌, List, length, reverse, ℤ, Option}
use Rattle.std.specs.List.{filter_map, range_with_len, find, list_any}
use Rattle.std.specs.Option.{is_some}
use Rattle.std.specs.Ordering.{int_eq}
use Rattle.cell.specs.Ticks.{on}
use Rattle.net_rows.specs.declared.rows.Node.{Node}
use Rattle.net_rows.specs.declared.rows.Edge.{Edge}
use Rattle.net_rows.specs.Nets.{nth_node}
use Rattle.net_rows.specs.declared.axis.Axis.{Axis}
use Rattle.net_rows.specs.declared.axis.Axis.TheVariants.{Column, Row}
use Rattle.checks.specs.declared.asked.Place.{Place}
use Rattle.checks.specs.declared.asked.Class.{Class}
use Rattle.checks.specs.declared.asked.Class.TheVariants.{Any, Of}
use Rattle.checks.specs.Sides.{places_between}

-- a node is one of those looked for
abbrev pub is_of : Class → Node → Bool
is_of Any n = true
is_of (Of layer component) n = n.layer == layer && n.component == component

-- which line of an axis it stands on, in ticks: a column's nodes have one x, a row's one y
abbrev pub line_of : Axis → Node → ℤ
line_of Column n = n.x
line_of Row n = n.y

-- it lies at the place x, y, in ticks, and is one of those looked for
unfoldable pub here : Class → ℤ → ℤ → Node → Bool
here class x y n = int_eq n.x x && int_eq n.y y && is_of class n

-- the last number below n that passes a test
abbrev pub last_below : (ℕ → Bool) → ℕ → Option ℕ
last_below p n = find p (reverse (range_with_len 0 n))

-- "the last one winning"
abbrev pub last_at : List Node → Class → ℤ → ℤ → Option ℕ
last_at nodes class x y = last_below (λ n. here class x y (nth_node nodes n)) (length nodes)

abbrev pub node_at : List Node → Class → Place → Option ℕ
node_at nodes class p = last_at nodes class (on p.x) (on p.y)

-- the nodes strictly between two places of one line, in the order of the walk from a to b: one for each place that
-- has one
unfoldable pub nodes_between : List Node → Class → Place → Place → List ℕ
nodes_between nodes class a b = filter_map (node_at nodes class) (places_between a b)

-- the first place strictly between two that has a node
unfoldable pub next_place : List Node → Class → Place → Place → Option Place
next_place nodes class a b = find (λ p. is_some (node_at nodes class p)) (places_between a b)

-- an edge joins a and b, one way or the other
unfoldable pub joins : ℕ → ℕ → Edge → Bool
joins a b e = (e.from == a && e.to == b) || (e.from == b && e.to == a)

abbrev pub joined : List Edge → ℕ → ℕ → Bool
joined edges a b = list_any (joins a b) edges
