-- How a run ends: what stands on standard output, its status, and the words on standard error.
use Rattle.std.specs.Prelude.{ℕ, List, ◌++◌, codes, ◌≡◌, ⊤, Option, Some, None}
use Rattle.std.specs.Io.KnownBytes.{Appends, Keeps}
use Rattle.std.specs.declared.io.Error.{Error}
use Rattle.refusals.specs.declared.Refusal.{Refusal}
use Rattle.refusals.specs.declared.Refusal.TheVariants.{WrongVersion, WrongLength, OutOfRange, Slanted, UnevenCell}
use Rattle.refusals.specs.declared.Refusal.TheVariants.{NoRoom, BadTable, NoSuchCell, AlreadySplit, FinestLevel}
use Rattle.refusals.specs.Said.{refusal}
use Rattle.leafnet_text.specs.declared.failure.Failure.TheVariants.{Reading, Writing}
use Rattle.leafnet_text.specs.Lines.{ended, refusal_line}
use Rattle.leafnet_text.specs.Fronts.{AppendsFront}
use Rattle.leafnet_text.specs.Ends.{Answers, Fails}
use Rattle.leafnet_command.specs.Asked.{Asked, usage, version, answer, answer_for, unknown, asked_in}
use Rattle.leafnet_command.specs.Texts.{usage_text, version_text}
use Rattle.leafnet_command.specs.declared.request.Source.TheVariants.{StandardInput, File}
use Rattle.leafnet_command.specs.declared.request.Request.TheVariants.{Answer}
use Rattle.leafnet_command.specs.declared.ending.Ending.{Ending}
use Rattle.leafnet_command.specs.declared.ending.Ending.TheVariants.{Printed, Refused, Misused, Unread, Unwritten}

abbrev pub status_of : Ending → ℕ
status_of Printed = 0
status_of (Refused why) = 1
status_of Misused = 2
status_of (Unread source why) = 1
status_of (Unwritten why) = 1

-- a refusal in words
abbrev pub reason : Refusal → List ℕ
reason WrongVersion = codes "the record is not of version 1"
reason (WrongLength at) = codes "the record is cut short, too long, or gives a wrong length"
reason (OutOfRange at) = codes "a value is out of range"
reason (Slanted polygon) = codes "two neighbouring points of a ring differ in both x and y"
reason (UnevenCell polygon) = codes "a base cell's side is no multiple of 2^(max_level+1) ticks"
reason NoRoom = codes "a lent row is too short"
reason BadTable = codes "the table or net is not well formed, or rows of polygons do not fit together"
reason (NoSuchCell id) = codes "there is no cell with this id"
reason (AlreadySplit id) = codes "the cell is split already"
reason (FinestLevel id) = codes "the cell is at the finest level"

-- ---- what stands on standard error

-- all that is said of an ending. Of a failure it has words of the system, which no rule gives
abbrev pub Says : Ending → Option (List ℕ) → Option (List ℕ) → Type 0
Says Printed old new = Keeps old new
Says (Refused why) old new = Appends old new (ended (codes "leafnet: " ++ (refusal_line (refusal why) ++ (codes ": " ++ reason why))))
Says Misused old new = Appends old new usage_text
Says (Unread StandardInput why) old new = (words : List ℕ) × Appends old new (ended (codes "leafnet: cannot read standard input: " ++ words))
Says (Unread (File name) why) old new = (words : List ℕ) × Appends old new (ended (codes "leafnet: " ++ (name.now ++ (codes ": " ++ words))))
Says (Unwritten why) old new = (words : List ℕ) × Appends old new (ended (codes "leafnet: cannot write standard output: " ++ words))

-- ---- what stands on standard output, by what is known of it before and after

-- a text of the command's own, or a front of it where the output fails
abbrev pub PrintsOwn : (Error → Type 0) → Option (List ℕ) → Option (List ℕ) → List ℕ → Ending → Type 0
PrintsOwn writes held held' text Printed = Appends held held' text
PrintsOwn writes held held' text (Unwritten why) = writes why × AppendsFront held held' text
PrintsOwn writes held held' text ending = ⊥

-- what is asked for is read from an end that has these bytes left, and its answer printed; or one of the two ends fails, and is named
abbrev pub PrintsAnswer : Asked → (Error → Type 0) → (Error → Type 0) → Option (List ℕ) → Option (List ℕ) → Option (List ℕ) → Option (List ℕ) → Ending → Type 0
PrintsAnswer asked reads writes left left' held held' Printed = Answers left left' held held' None
PrintsAnswer asked reads writes left left' held held' (Refused why) = Answers left left' held held' (Some why)
PrintsAnswer asked reads writes left left' held held' Misused = ⊥
PrintsAnswer asked reads writes left left' held held' (Unread source why) =
    (asked_in (Some (Answer source)) ≡ asked) × Fails left left' held held' reads writes (Reading why)
PrintsAnswer asked reads writes left left' held held' (Unwritten why) = Fails left left' held held' reads writes (Writing why)

-- the file of this name can't be opened, and nothing is printed
abbrev pub IsUnopened : (List ℕ → Error → Type 0) → Option (List ℕ) → Option (List ℕ) → List ℕ → Ending → Type 0
IsUnopened fails held held' name (Unread source why) = (asked_in (Some (Answer source)) ≡ answer_for name) × fails name why × Keeps held held'
IsUnopened fails held held' name ending = ⊥

-- a file that is opened under this name, and what it has left before and after: its answer is printed
pub record PrintsFile {File : Type 0} (opens : List ℕ → File → Type 0) (remaining : File → Option (List ℕ)) (reads writes : Error → Type 0) (held held' : Option (List ℕ))
    (name : List ℕ) (ending : Ending) : Type 0 where
  pub file : File
  pub rest : Option (List ℕ)
  pub is_opened : opens name file
  pub prints : PrintsAnswer (answer_for name) reads writes (remaining file) rest held held' ending

-- ---- by what is asked for

-- what holds of the text where usage or version are asked for
abbrev pub OfOwn : Asked → (List ℕ → Type 0) → Type 0
OfOwn usage P = P usage_text
OfOwn version P = P version_text
OfOwn asked P = ⊤

-- what holds where the record on standard input is
abbrev pub OfInput : Asked → Type 0 → Type 0
OfInput answer P = P
OfInput asked P = ⊤

-- what holds of the name where the record of a file is
abbrev pub OfFile : Asked → (List ℕ → Type 0) → Type 0
OfFile (answer_for name) P = P name
OfFile asked P = ⊤

-- what holds where nothing known is
abbrev pub OfUnknown : Asked → Type 0 → Type 0
OfUnknown unknown P = P
OfUnknown asked P = ⊤

-- standard input is read only where its record is asked for
abbrev pub Leaves : Asked → Option (List ℕ) → Option (List ℕ) → Type 0
Leaves answer old new = ⊤
Leaves asked old new = new ≡ old
