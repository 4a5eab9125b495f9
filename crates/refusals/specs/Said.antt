-- What a call says, in the rules' terms: accepted, with its values, or refused, with a number and a place.
use Rattle.std.specs.Prelude.{ℕ, Bool, true, false, List, ◌++◌, length, drop, Result, Ok, Err}
use Rattle.refusals.specs.declared.Refusal.{Refusal}
use Rattle.refusals.specs.declared.Refusal.TheVariants.{WrongVersion, WrongLength, OutOfRange, Slanted, UnevenCell}
use Rattle.refusals.specs.declared.Refusal.TheVariants.{NoRoom, BadTable, NoSuchCell, AlreadySplit, FinestLevel}

pub data Said : Type 0 where
  accepted : List ℕ → Said
  refused : ℕ → ℕ → Said

-- the rules' "Refusal numbers": the number and the place of each case
abbrev pub refusal : Refusal → Said
refusal WrongVersion = refused 1 0
refusal (WrongLength at) = refused 2 at
refusal (OutOfRange at) = refused 3 at
refusal (Slanted polygon) = refused 4 polygon
refusal (UnevenCell polygon) = refused 5 polygon
refusal NoRoom = refused 6 0
refusal BadTable = refused 7 0
refusal (NoSuchCell id) = refused 8 id
refusal (AlreadySplit id) = refused 9 id
refusal (FinestLevel id) = refused 10 id

-- what a call says by its answer: the values, or the refusal
abbrev pub said : {A : Type 0} → (A → List ℕ) → Result A Refusal → Said
said values (Ok a) = accepted (values a)
said values (Err why) = refusal why

abbrev pub is_accepted : Said → Bool
is_accepted (accepted values) = true
is_accepted (refused number place) = false

-- what stands after a call: something new if it is accepted, and what stood before if it is refused
abbrev pub if_accepted : {A : Type 0} → Said → A → A → A
if_accepted (accepted values) new old = new
if_accepted (refused number place) new old = old

-- a row written from its front: what is new, and behind it what stood there
abbrev pub written : {A : Type 0} → List A → List A → List A
written new old = new ++ drop (length new) old

-- yes and no as a value of an accepted call
abbrev pub bit : Bool → ℕ
bit true = 1
bit false = 0
