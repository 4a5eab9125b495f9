-- What the words of a command line ask for.
use Rattle.std.specs.Prelude.{ℕ, List, [], ◌∷◌, codes, if◌then◌else◌, Bool, false, nat_eq, Option, Some, None}
use Rattle.std.specs.Str.{bytes_eq}
use Rattle.leafnet_command.specs.declared.request.Source.TheVariants.{StandardInput, File}
use Rattle.leafnet_command.specs.declared.request.Request.{Request}
use Rattle.leafnet_command.specs.declared.request.Request.TheVariants.{Help, Version, Answer}

-- the usage, the version, the answer for the record on standard input or in a file of this name, or nothing that is known
pub data Asked : Type 0 where
  usage : Asked
  version : Asked
  answer : Asked
  answer_for : List ℕ → Asked
  unknown : Asked

abbrev pub begins_with_dash : List ℕ → Bool
begins_with_dash [] = false
begins_with_dash (c ∷ word) = nat_eq c 45

abbrev pub asked_by_word : List ℕ → Asked
asked_by_word word =
    if bytes_eq word (codes "--help") then usage
    else (if bytes_eq word (codes "--version") then version
    else (if bytes_eq word (codes "-") then answer
    else (if begins_with_dash word then unknown else answer_for word)))

-- no word is the answer for standard input, too
abbrev pub asked_by : List (List ℕ) → Asked
asked_by [] = answer
asked_by (word ∷ []) = asked_by_word word
asked_by (word ∷ next ∷ words) = unknown

-- what is asked for by a request, or by none
abbrev pub asked_in : Option Request → Asked
asked_in (Some Help) = usage
asked_in (Some Version) = version
asked_in (Some (Answer StandardInput)) = answer
asked_in (Some (Answer (File name))) = answer_for name.now
asked_in None = unknown
