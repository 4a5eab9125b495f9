-- What contact comes to.
use Rattle.std.specs.Prelude.{◌≡◌, ℕ, ◌<◌, IsTrue, ◌==◌, ◌&&◌, ◌||◌, nat_lt, min, max, Bool}
use Rattle.std.specs.Prelude.{Option, None, Some, Result, Ok, Err}
use Rattle.refusals.specs.declared.Refusal.{Refusal}
use Rattle.cell.specs.declared.border.Border.{Border}
use Rattle.cell.specs.declared.border.Side.{Side}
use Rattle.cell.specs.declared.border.Side.TheVariants.{South, East, North, West}
use Rattle.cell.specs.declared.rectangles.Rect.{Rect}
use Rattle.cell.specs.Contact.{contact_said, contact_says}
use Rattle.cell.specs.Boxes.{Box, HasArea, Quad, quadrant, length_on, border, shares_edge}

-- the ranges a to b and c to d overlap by a positive length: what they have in common begins before it ends
abbrev pub overlaps : ℕ → ℕ → ℕ → ℕ → Bool
overlaps a b c d = nat_lt (max a c) (min b d)

-- some border is what the rules say of sharing an edge: "the east side of one has the x of the west side of the other
-- and their y ranges overlap by a positive length, or likewise with x and y exchanged"; of all boxes, those without an
-- area too
abbrev pub SomeBorder : Type 0
SomeBorder =
    (a b : Box)
    → shares_edge a b
    ≡ (((a.x1 == b.x0 || b.x1 == a.x0) && overlaps a.y0 a.y1 b.y0 b.y1)
    || ((a.y1 == b.y0 || b.y1 == a.y0) && overlaps a.x0 a.x1 b.x0 b.x1))

-- at most one side of a box with an area has a border of positive length with another
abbrev pub OneSide : Type 0
OneSide =
    (a b : Box) → HasArea a → HasArea b
    → (s t : Side) → 0 < length_on s a b → 0 < length_on t a b → s ≡ t

-- so the border is the one on whichever side has one, whatever the order in which the sides are asked
abbrev pub BorderOnAnySide : Type 0
BorderOnAnySide =
    (a b : Box) → HasArea a → HasArea b
    → (s : Side) → 0 < length_on s a b → border a b ≡ Some (record { side = s; length = length_on s a b })

-- a border is as long as its side says, and longer than a point; of all boxes
abbrev pub BorderHasLength : Type 0
BorderHasLength = (a b : Box) (c : Border) → border a b ≡ Some c → (c.length ≡ length_on c.side a b) × (0 < c.length)

abbrev pub opposite : Side → Side
opposite South = North
opposite East = West
opposite North = South
opposite West = East

-- a border as the other of the two sees it: on the opposite side, of the same length
abbrev pub turned : Option Border → Option Border
turned None = None
turned (Some b) = Some (record { side = opposite b.side; length = b.length })

abbrev pub BorderTurned : Type 0
BorderTurned = (a b : Box) → HasArea a → HasArea b → border b a ≡ turned (border a b)

-- what `between` answers of the two exchanged
abbrev pub answer_turned : Result (Option Border) Refusal → Result (Option Border) Refusal
answer_turned (Ok b) = Ok (turned b)
answer_turned (Err why) = Err why

abbrev pub AnswerTurned : Type 0
AnswerTurned =
    (a b : Rect) (r q : Result (Option Border) Refusal)
    → contact_said r ≡ contact_says a b → contact_said q ≡ contact_says b a → q ≡ answer_turned r

-- who shares an edge with another is shared an edge with; of all boxes
abbrev pub ContactIsMutual : Type 0
ContactIsMutual = (a b : Box) → IsTrue (shares_edge a b) → IsTrue (shares_edge b a)

-- boxes that have a corner in common and lie across it from one another do not share an edge
abbrev pub CornersDoNotTouch : Type 0
CornersDoNotTouch =
    (a b : Box) → a.x0 < a.x1 → a.y0 < a.y1 → a.x1 ≡ b.x0 → a.y1 ≡ b.y0 → b.x0 < b.x1 → b.y0 < b.y1
    → ¬ IsTrue (shares_edge a b)

-- a box that shares an edge with another has a quadrant that does
abbrev pub SomeQuadrantTouches : Type 0
SomeQuadrantTouches = (a b : Box) → IsTrue (shares_edge a b) → (q : Quad) × IsTrue (shares_edge (quadrant a q) b)

-- two answers that the contract of `between` permits are one
abbrev pub OneContact : Type 0
OneContact =
    (a b : Rect) (r q : Result (Option Border) Refusal)
    → contact_said r ≡ contact_says a b → contact_said q ≡ contact_says a b → r ≡ q
