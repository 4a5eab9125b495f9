-- How leafnet ends, by what is known of its two ends before and after: the bytes that the one has left to be read, and those that the other holds.
use Rattle.std.specs.Prelude.{ℕ, ◌+◌, ◌≡◌, List, take, Option, IfSome}
use Rattle.std.specs.Io.KnownBytes.{Appends, Consumes, Keeps}
use Rattle.std.specs.declared.io.Error.{Error}
use Rattle.refusals.specs.declared.Refusal.{Refusal}
use Rattle.leafnet_text.specs.declared.failure.Failure.{Failure}
use Rattle.leafnet_text.specs.declared.failure.Failure.TheVariants.{Reading, Writing}
use Rattle.leafnet_text.specs.Fronts.{AppendsFront, ConsumesFront}
use Rattle.leafnet_text.specs.Rooms.{input_room}
use Rattle.leafnet_text.specs.Output.{leafnet_says, output_text, Tells}

-- s is what is read of an input: all of it, or as much as shows that it is too long
abbrev pub IsRead : Option (List ℕ) → Option (List ℕ) → List ℕ → Type 0
IsRead left left' s = Consumes left left' s × IfSome left (λ input. s ≡ take (input_room + 1) input)

module _ (left left' held held' : Option (List ℕ)) where
  -- some bytes are read, their text is written, and this refusal is theirs, or none
  abbrev pub Answers : Option Refusal → Type 0
  Answers why = (s : List ℕ) × IsRead left left' s × Appends held held' (output_text s) × Tells why (leafnet_says s)

  -- a read has failed, and nothing is written; or a write has, once some bytes are read: a front of their text is written
  abbrev pub Fails : (Error → Type 0) → (Error → Type 0) → Failure → Type 0
  Fails reads writes (Reading why) = reads why × ConsumesFront left left' × Keeps held held'
  Fails reads writes (Writing why) = writes why × ((s : List ℕ) × IsRead left left' s × AppendsFront held held' (output_text s))
