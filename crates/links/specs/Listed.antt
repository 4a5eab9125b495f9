-- The cells that are listed as near a via. Definitions only.
use Rattle.std.specs.Prelude.{ℕ, ◌+◌, ◌<◌, ◌≤◌, ◌≡◌, List, length, slice_index, slice_set, IsFalse}
use Rattle.table.specs.Mesh.{Cell, at}
use Rattle.links.specs.declared.count.Near.{Near}
use Rattle.links.specs.Windows.{misses}

-- how many there is room for
abbrev pub listed : ℕ
listed = 256

-- one cell more, where there is room
pub record IsListed (old : Near) (id : ℕ) (new : Near) : Type 0 where
  pub put : old.count < listed → new.ids ≡ slice_set old.ids old.count id
  pub one : old.count < listed → new.count ≡ old.count + 1
  pub full : listed ≤ old.count → listed ≤ new.count
  pub long : length new.ids ≡ length old.ids

-- where there is room, each cell below k that is not outside the window is listed
pub record AreListed (cs : List Cell) (near : Near) (k : ℕ) : Type 0 where
  pub long : length near.ids ≡ listed
  pub below : near.count < listed → (j : ℕ) → j < near.count → slice_index near.ids j < k
  pub all :
      near.count < listed → (i : ℕ) → i < k → IsFalse (misses near.window (at cs i).box)
      → (j : ℕ) × (j < near.count) × (slice_index near.ids j ≡ i)
