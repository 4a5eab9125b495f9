-- Six keys in order, and the first and the last entry of each, written out: what the sort's definitions come to. A key's
-- entry is the key with its number.
use Rattle.std.specs.Prelude.{ℕ, ◌≡◌, ◌-◌, List, [], ◌∷◌, map, filter, length, nat_eq, slice_get, slice_index, Some}
use Rattle.std.specs.List.{starts_with}
use Rattle.sorted.specs.Firsts.{IsInOrder, AreFirsts}

abbrev pub keys : List ℕ
keys = 5 ∷ 3 ∷ 5 ∷ 9 ∷ 3 ∷ 5 ∷ []

abbrev pub entry : ℕ → List ℕ
entry i = slice_index keys i ∷ i ∷ []

abbrev pub in_order : List (List ℕ)
in_order = (3 ∷ 1 ∷ []) ∷ (3 ∷ 4 ∷ []) ∷ (5 ∷ 0 ∷ []) ∷ (5 ∷ 2 ∷ []) ∷ (5 ∷ 5 ∷ []) ∷ (9 ∷ 3 ∷ []) ∷ []

-- equal keys stand by their numbers
abbrev pub SixAreInOrder : Type 0
SixAreInOrder = IsInOrder entry 6 in_order

-- the same with the numbers of one key the other way round, and with one entry in place of another
abbrev pub exchanged : List (List ℕ)
exchanged = (3 ∷ 1 ∷ []) ∷ (3 ∷ 4 ∷ []) ∷ (5 ∷ 2 ∷ []) ∷ (5 ∷ 0 ∷ []) ∷ (5 ∷ 5 ∷ []) ∷ (9 ∷ 3 ∷ []) ∷ []

abbrev pub doubled : List (List ℕ)
doubled = (3 ∷ 1 ∷ []) ∷ (3 ∷ 4 ∷ []) ∷ (5 ∷ 0 ∷ []) ∷ (5 ∷ 0 ∷ []) ∷ (5 ∷ 5 ∷ []) ∷ (9 ∷ 3 ∷ []) ∷ []

-- neither is in order
abbrev pub ExchangedAreNot : Type 0
ExchangedAreNot = ¬ IsInOrder entry 6 exchanged

abbrev pub DoubledAreNot : Type 0
DoubledAreNot = ¬ IsInOrder entry 6 doubled

-- no key, no entry
abbrev pub NoneAreInOrder : Type 0
NoneAreInOrder = IsInOrder entry 0 []

-- of each key the number of the first that is equal
abbrev pub FirstsOfSix : Type 0
FirstsOfSix = AreFirsts (λ i. slice_index keys i ∷ []) (0 ∷ 1 ∷ 0 ∷ 3 ∷ 1 ∷ 0 ∷ [])

-- the entries that begin with a key
abbrev pub run_of : ℕ → List (List ℕ)
run_of key = filter (λ e. starts_with nat_eq e (key ∷ [])) in_order

-- of each key the entry of the last that is equal: the last of its run
abbrev pub LastsOfSix : Type 0
LastsOfSix =
    map (λ key. slice_get (run_of key) (length (run_of key) - 1)) keys
    ≡ map (λ i. Some (entry i)) (5 ∷ 4 ∷ 5 ∷ 3 ∷ 4 ∷ 5 ∷ [])
