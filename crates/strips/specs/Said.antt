-- What the public call says, and what it leaves in the lent row.
use Rattle.std.specs.Prelude.{ℕ, List, [], ◌∷◌, ◌++◌, map, length, take, drop, ℤ, Result, Ok, Err, ⊤}
use Rattle.std.specs.Prelude.{if◌then◌else◌, nat_lt}
use Rattle.refusals.specs.declared.Refusal.{Refusal}
pub use Rattle.refusals.specs.Said.{if_accepted}
use Rattle.refusals.specs.Said.{Said, accepted, refused, refusal, said, written}
use Rattle.cell.specs.Ticks.{on}
use Rattle.strips.specs.Rings.{ring_in_range, ring_slants}
use Rattle.strips.specs.Strips.{strips_of}
use Rattle.strips.specs.declared.walk.Strip.{Strip}

abbrev pub stripped_said : Result ℕ Refusal → Said
stripped_said = said (λ n. n ∷ [])

-- a strip as the caller reads it, in signed ticks: x0, y0, x1, y1
abbrev pub strip_row : Strip → List ℤ
strip_row s = on s.x0 ∷ on s.y0 ∷ on s.x1 ∷ on s.y1 ∷ []

-- a ring out of range is refused with 3, a slanted one with 4, at the place given; of any other ring `otherwise` is
-- said
abbrev pub judged : ℕ → List (List ℤ) → Said → Said
judged place ps otherwise =
    if ring_in_range ps then (if ring_slants ps then refused 4 place else otherwise) else refused 3 place

-- what an answer of a judge says: nothing, or its refusal
abbrev pub fault : Result ⊤ Refusal → Said → Said
fault (Ok done) otherwise = otherwise
fault (Err why) otherwise = refusal why

-- 6 for too little room; otherwise the number
abbrev pub counted : ℕ → ℕ → Said
counted n room = if nat_lt room n then refused 6 0 else accepted (n ∷ [])

-- 3, 4, 6, each with place 0; otherwise the number of strips
unfoldable pub strips_says : List (List ℤ) → ℕ → Said
strips_says ps room = judged 0 ps (counted (length (strips_of ps)) room)

-- strips at the front of a row, and behind them what the row held
unfoldable pub laid : List Strip → List (List ℤ) → List (List ℤ)
laid ss row = written (map strip_row ss) row

-- the row below k, and the strips from k on
abbrev pub laying : List (List ℤ) → ℕ → List Strip → List (List ℤ)
laying out k ss = take k out ++ laid ss (drop k out)

unfoldable pub strips_leave : List (List ℤ) → List (List ℤ) → List (List ℤ)
strips_leave ps row = if_accepted (strips_says ps (length row)) (laid (strips_of ps) row) row
