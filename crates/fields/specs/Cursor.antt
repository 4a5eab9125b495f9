-- Lent bytes that are read from left to right.
use Rattle.std.specs.Prelude.{◌≡◌, ℕ, ◌+◌, List, length, take, drop, Option, Some, None, Bool}
use Rattle.std.specs.Prelude.{Result, Ok, Err, nat_lt, if◌then◌else◌, ℤ}
use Rattle.std.specs.Int.{Width, byte_len, from_be_bytes, w64, cast_signed}
use Rattle.refusals.specs.declared.Refusal.{Refusal}
use Rattle.refusals.specs.declared.Refusal.TheVariants.{WrongLength}

-- how many bytes have been read, and those that are left
pub record Cursor : Type 0 where
  pub at : ℕ
  pub rest : List ℕ

abbrev pub start : List ℕ → Cursor
start bytes = record { at = 0; rest = bytes }

abbrev pub past : ℕ → Cursor → Cursor
past n c = record { at = c.at + n; rest = drop n c.rest }

-- the rules: "anything but a value ends the read at once"
infixl 10 ◌>>=◌
abbrev pub ◌>>=◌ : {A B : Type 0} → Result A Refusal → (A → Result B Refusal) → Result B Refusal
(Ok x) >>= f = f x
(Err e) >>= f = Err e

-- what follows, unless the test fails: then this refusal
abbrev pub require : {A : Type 0} → Bool → Refusal → Result A Refusal → Result A Refusal
require ok refusal next = if ok then next else Err refusal

-- What the code answered, and where it left the reader, is what reading comes to.
abbrev pub Reads : {A : Type 0} → Result A Refusal → Cursor → Result (A × Cursor) Refusal → Type 0
Reads (Ok x) after reading = reading ≡ Ok (x, after)
Reads (Err e) after reading = reading ≡ Err e

-- The same of a field that is there or isn't, whatever its value: where it isn't, reading refuses by 2 where it begins.
abbrev pub Finds : {A : Type 0} → Option A → Cursor → Cursor → Result (A × Cursor) Refusal → Type 0
Finds (Some x) before after reading = reading ≡ Ok (x, after)
Finds None before after reading = reading ≡ Err (WrongLength before.at)

abbrev pub IsFieldAt : ℕ → List ℕ → ℕ → Option (List ℕ) → Type 0
IsFieldAt n bytes at field = field ≡ (if nat_lt (length (drop at bytes)) n then None else Some (take n (drop at bytes)))

-- the next n bytes. Refusal 2, "a field can't be read whole", with the "offset of that field"
abbrev pub bytes_of : ℕ → Cursor → Result (List ℕ × Cursor) Refusal
bytes_of n c = if nat_lt (length c.rest) n then Err (WrongLength c.at) else Ok (take n c.rest, past n c)

-- the number that they are, the first of them the highest
abbrev pub number : Width → Cursor → Result (ℕ × Cursor) Refusal
number w c = do
  bytes ← bytes_of (byte_len w) c
  Ok (from_be_bytes w bytes.0, bytes.1)

-- 64 bits as a signed number, in two's complement
abbrev pub signed_number : Cursor → Result (ℤ × Cursor) Refusal
signed_number c = do
  n ← number w64 c
  Ok (cast_signed w64 n.0, n.1)
