-- What the calls on a lent table come to.
use Rattle.std.specs.Prelude.{ℕ, ◌+◌, ◌*◌, ◌≡◌, ◌↔◌, ◌==◌, ◌&&◌, if◌then◌else◌, nat_lt, List, ℤ, length, count_by, Result}
use Rattle.refusals.specs.declared.Refusal.{Refusal}
use Rattle.refusals.specs.Said.{Said}
use Rattle.table.specs.declared.Head.{Head}
use Rattle.table.specs.Mesh.{is_leaf, root_count}
use Rattle.table.specs.Formed.{WellFormed}
use Rattle.table.specs.Rows.{IsTable, cells_in, leaves_in, order_in}
use Rattle.table.specs.Leaves.{listed_said}
use Rattle.table.specs.Refine.{refined_said}

-- the test says yes exactly if the rules' definition holds
abbrev pub TestIsDefinition : Type 0
TestIsDefinition = (row : List ℤ) (head : Head) → IsTable row head ↔ WellFormed row head

-- the leaves by id are every leaf once, and nothing else
abbrev pub EachLeafOnce : Type 0
EachLeafOnce =
    (row : List ℤ) (head : Head) (i : ℕ)
    → count_by (λ x. x == i) (leaves_in row head)
    ≡ (if nat_lt i head.count && is_leaf (cells_in row head) i then 1 else 0)

-- the order by polygon has the same leaves
abbrev pub OrderHasTheLeaves : Type 0
OrderHasTheLeaves =
    (row : List ℤ) (head : Head) (i : ℕ) → IsTable row head
    → count_by (λ x. x == i) (order_in row head) ≡ count_by (λ x. x == i) (leaves_in row head)

-- and so as many
abbrev pub OrderIsAsLong : Type 0
OrderIsAsLong =
    (row : List ℤ) (head : Head) → IsTable row head → length (order_in row head) ≡ length (leaves_in row head)

-- the stored number is how many leaves are listed
abbrev pub LeavesAreListed : Type 0
LeavesAreListed = (row : List ℤ) (head : Head) → IsTable row head → head.leaves ≡ length (leaves_in row head)

-- a split makes four cells of one leaf, so the cells and the roots tell how many leaves there are
abbrev pub LeavesByRoots : Type 0
LeavesByRoots =
    (row : List ℤ) (head : Head) → IsTable row head
    → 4 * head.leaves ≡ 3 * head.count + root_count (cells_in row head)

-- the contracts of the leaf lists permit one answer, and so does that of refine
abbrev pub OneList : Type 0
OneList = (what : Said) (r q : Result ℕ Refusal) → listed_said r ≡ what → listed_said q ≡ what → r ≡ q

abbrev pub OneRefined : Type 0
OneRefined = (what : Said) (r q : Result Head Refusal) → refined_said r ≡ what → refined_said q ≡ what → r ≡ q
