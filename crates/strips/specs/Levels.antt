-- Heights as they are lent: which edges the code takes for those that span a band. Internal.
use Rattle.std.specs.Prelude.{ℕ, Bool, List, [], ℤ, pos, slice_index_or}
use Rattle.std.specs.Bool.{xor}
use Rattle.std.specs.Int.Signed.{le_z}

abbrev pub level_at : List (List ℤ) → ℕ → ℤ
level_at ps i = slice_index_or (slice_index_or ps i []) 1 (pos 0)

-- one of two heights is at lo or below, and the other above it
unfoldable pub crosses : ℤ → ℤ → ℤ → Bool
crosses lo y0 y1 = xor (le_z y0 lo) (le_z y1 lo)
