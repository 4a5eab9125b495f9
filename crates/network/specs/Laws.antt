-- What an accepted call leaves, and that the contracts of both calls permit one outcome: the laws that src/laws.rt
-- promises. Definitions only.
use Rattle.std.specs.Prelude.{ℕ, ◌≡◌, List, ℤ, Float, All, Result}
use Rattle.refusals.specs.declared.Refusal.{Refusal}
use Rattle.refusals.specs.Said.{accepted}
use Rattle.table.specs.declared.Head.{Head}
use Rattle.net_rows.specs.declared.rows.Polygons.{Polygons}
use Rattle.net.specs.Net as Net
use Rattle.net.specs.Net.{Cornered}
use Rattle.net.specs.Laws.{IsPositive}
use Rattle.links.specs.declared.rows.Links.{Links}
use Rattle.network.specs.declared.NetSize.{NetSize}
use Rattle.network.specs.Says.{Rows, netted_said, network_says, network_leaves, net_of, rows_said, edge_rows_says}

-- a call, and the counts that it answers where it is accepted
pub record AcceptedCall : Type 0 where
  pub row : List ℤ
  pub head : Head
  pub polygons : Polygons
  pub sheets : List Float
  pub links : Links
  pub lent : Rows
  pub counts : List ℕ
  pub accepting : network_says row head polygons sheets links lent ≡ accepted counts

abbrev pub net_left : AcceptedCall → Net.Net
net_left c = net_of c.row c.head c.polygons c.sheets c.links

-- every conductance is finite and above 0
abbrev pub AcceptedEdgesConduct : Type 0
AcceptedEdgesConduct = (c : AcceptedCall) → All (λ e. IsPositive e.conductance) (net_left c).edges

-- the corners of every cell are those of a rectangle, in their order
abbrev pub AcceptedCellsAreRectangles : Type 0
AcceptedCellsAreRectangles = (c : AcceptedCall) → All (Cornered (net_left c).nodes) (net_left c).cells

-- two answers that are permitted are one, and so are two contents of the lent rows
abbrev pub OneAnswer : Type 0
OneAnswer =
    (row : List ℤ) (head : Head) (p : Polygons) (sheets : List Float) (links : Links) (lent : Rows) (answer other : Result NetSize Refusal)
    → netted_said answer ≡ network_says row head p sheets links lent → netted_said other ≡ network_says row head p sheets links lent → answer ≡ other

abbrev pub OneContent : Type 0
OneContent =
    (row : List ℤ) (head : Head) (p : Polygons) (sheets : List Float) (links : Links) (lent left other : Rows)
    → left ≡ network_leaves row head p sheets links lent → other ≡ network_leaves row head p sheets links lent → left ≡ other

-- and two answers of the call that counts edge rows. It writes nothing, so that is its whole outcome
abbrev pub OneCount : Type 0
OneCount =
    (row : List ℤ) (head : Head) (p : Polygons) (sheets : List Float) (links : Links)
    → (answer other : Result ℕ Refusal) → rows_said answer ≡ edge_rows_says row head p sheets links
    → rows_said other ≡ edge_rows_says row head p sheets links → answer ≡ other
