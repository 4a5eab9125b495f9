-- Input that is too long: the law that src/laws.rt promises.
use Rattle.std.specs.Prelude.{ℕ, ◌+◌, ◌≡◌, List, take}
use Rattle.leafnet_text.specs.Rooms.{input_room}
use Rattle.leafnet_text.specs.Output.{leafnet_says}

-- of any input the same is said as of its first 16,385 bytes
abbrev pub CutIsEnough : Type 0
CutIsEnough = (s : List ℕ) → leafnet_says (take (input_room + 1) s) ≡ leafnet_says s
