-- How long the rows of the work room are. Definitions only.
use Rattle.std.specs.Prelude.{◌≡◌, ℕ, length}
use Rattle.weights.specs.declared.room.Room.{Room}

-- one of each for each corner
pub record HasRoom (corners : ℕ) (r : Room) : Type 0 where
  pub keys : length r.keys.now ≡ corners
  pub row : length r.row.now ≡ corners
  pub up : length r.up.now ≡ corners
  pub down : length r.down.now ≡ corners
  pub right : length r.right.now ≡ corners
  pub left : length r.left.now ≡ corners
  pub steps : length r.steps.now ≡ corners
