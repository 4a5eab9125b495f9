-- One description of a field for who reads it and who writes it.
use Rattle.std.specs.Prelude.{ℕ, zero, suc, ◌^◌, List, [], ◌∷◌, ◌++◌, length, Bool, true, ◌&&◌}
use Rattle.std.specs.Prelude.{nat_le, nat_lt, Result, Ok, ℤ}
use Rattle.std.specs.List.{flat_map}
use Rattle.std.specs.Int.{Width, byte_len, to_be_bytes, w64, cast_unsigned}
use Rattle.refusals.specs.declared.Refusal.{Refusal}
use Rattle.refusals.specs.declared.Refusal.TheVariants.{OutOfRange}
use Rattle.fields.specs.Cursor.{Cursor, ◌>>=◌, require, number, signed_number}

pub record Codec (A : Type 0) : Type 0 where
  -- its bytes
  pub spelling : A → List ℕ
  -- the values that it may have
  pub fits : A → Bool
  -- what is read where the reader stands, or the first fault from there
  pub reading : Cursor → Result (A × Cursor) Refusal

-- any number of this width
abbrev pub any : Width → Codec ℕ
any w = record { spelling = to_be_bytes w; fits = λ n. nat_lt n (256 ^ byte_len w); reading = number w }

-- the values of a field that pass a test. Refusal 3, "a value outside the table", with the "byte offset in the reader"
abbrev pub tested : {A : Type 0} → (A → Bool) → Codec A → Codec A
tested test a = record {
  spelling = a.spelling;
  fits = λ x. a.fits x && test x;
  reading = λ c. a.reading c >>= λ x. require (test x.0) (OutOfRange c.at) (Ok x);
}

-- a number from low to high
abbrev pub ranged : Width → ℕ → ℕ → Codec ℕ
ranged w low high = tested (λ n. nat_le low n && nat_le n high) (any w)

-- a signed number of 64 bits that passes a test
abbrev pub signed : (ℤ → Bool) → Codec ℤ
signed test = record {
  spelling = λ z. to_be_bytes w64 (cast_unsigned w64 z);
  fits = test;
  reading = λ c. signed_number c >>= λ z. require (test z.0) (OutOfRange c.at) (Ok z);
}

-- one field and then another
abbrev pub pair : {A B : Type 0} → Codec A → Codec B → Codec (A × B)
pair a b = record {
  spelling = λ x. a.spelling x.0 ++ b.spelling x.1;
  fits = λ x. a.fits x.0 && b.fits x.1;
  reading = λ c. a.reading c >>= λ x. b.reading x.1 >>= λ y. Ok ((x.0, y.0), y.1);
}

-- the same under other names
abbrev pub named : {A B : Type 0} → (A → B) → (B → A) → Codec A → Codec B
named make parts a = record {
  spelling = λ y. a.spelling (parts y);
  fits = λ y. a.fits (parts y);
  reading = λ c. a.reading c >>= λ x. Ok (make x.0, x.1);
}

-- n items, one after the other. An item goes by what the one before it leaves
unfoldable pub many : {A S : Type 0} → (S → Codec A) → (A → S) → S → ℕ → Cursor → Result (List A × Cursor) Refusal
many item leaves seen zero c = Ok ([], c)
many item leaves seen (suc n) c =
    (item seen).reading c >>= λ x. many item leaves (leaves x.0) n x.1 >>= λ xs. Ok (x.0 ∷ xs.0, xs.1)

-- whether each item fits behind the one before it
unfoldable pub all_fit : {A S : Type 0} → (S → Codec A) → (A → S) → S → List A → Bool
all_fit item leaves seen [] = true
all_fit item leaves seen (x ∷ xs) = (item seen).fits x && all_fit item leaves (leaves x) xs

-- at most so many items, behind their number
abbrev pub chained : {A S : Type 0} → Width → ℕ → (S → Codec A) → (A → S) → S → Codec (List A)
chained w most item leaves seen = record {
  spelling = λ xs. to_be_bytes w (length xs) ++ flat_map (item seen).spelling xs;
  fits = λ xs. nat_le (length xs) most && all_fit item leaves seen xs;
  reading = λ c. (ranged w 0 most).reading c >>= λ n. many item leaves seen n.0 n.1;
}

-- n items that go by nothing but their place
abbrev pub times : {A : Type 0} → Codec A → ℕ → Cursor → Result (List A × Cursor) Refusal
times item = many (λ (_ : Unit {0}). item) (λ _. tt) tt

-- at most so many of them, behind their number
abbrev pub counted : {A : Type 0} → Width → ℕ → Codec A → Codec (List A)
counted w most item = chained w most (λ (_ : Unit {0}). item) (λ _. tt) tt
