-- What the rules say of contact between two rectangles with signed coordinates.
use Rattle.std.specs.Prelude.{ℕ, Bool, ◌&&◌, List, [], ◌∷◌, Option, None, Some, Result, if◌then◌else◌}
use Rattle.std.specs.Int.Signed.{lt_z}
use Rattle.refusals.specs.Said.{Said, accepted, refused, said}
use Rattle.refusals.specs.declared.Refusal.{Refusal}
use Rattle.cell.specs.Boxes.{Box, border, side_number}
use Rattle.cell.specs.Ticks.{in_range, off}
use Rattle.cell.specs.declared.border.Border.{Border}
use Rattle.cell.specs.declared.rectangles.Rect.{Rect}

-- every coordinate in range, and both sides positive
unfoldable pub sound_rect : Rect → Bool
sound_rect r = in_range r.x0 && in_range r.y0 && in_range r.x1 && in_range r.y1 && lt_z r.x0 r.x1 && lt_z r.y0 r.y1

-- the same rectangle with every coordinate moved up by 2^36, which changes no border
abbrev pub moved : Rect → Box
moved r = record { x0 = off r.x0; y0 = off r.y0; x1 = off r.x1; y1 = off r.y1 }

-- a border's values: its side and its length; none has no values
abbrev pub border_values : Option Border → List ℕ
border_values None = []
border_values (Some b) = side_number b.side ∷ b.length ∷ []

-- an answer's values, or its refusal
abbrev pub contact_said : Result (Option Border) Refusal → Said
contact_said = said border_values

-- what is to be said: refusal 3 at place 0, or the border of a with b
unfoldable pub contact_says : Rect → Rect → Said
contact_says a b =
    if sound_rect a && sound_rect b then accepted (border_values (border (moved a) (moved b)))
    else refused 3 0
