-- Entries up to a key. Definitions only.
use Rattle.std.specs.Prelude.{ℕ, Bool, ◌||◌, List, nat_eq}
use Rattle.std.specs.Ordering.{is_lt, nat_cmp}
use Rattle.std.specs.List.{starts_with}
use Rattle.std.specs.Cmp.Lexicographic.{slice_cmp}

-- an entry is below a key, or begins with it
abbrev pub is_upto : List ℕ → List ℕ → Bool
is_upto key e = is_lt (slice_cmp nat_cmp e key) || starts_with nat_eq e key
