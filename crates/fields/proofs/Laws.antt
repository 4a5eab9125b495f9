-- What is spelled is read again, and what is read fits: proved once for numbers, tests, pairs, names and lists.
use Rattle.std.proofs.Common.{◌≡◌, ℕ, zero, suc, ◌+◌, ◌^◌, ◌<◌, ◌≤◌, Bool, true, false, cond, ltb, leb, ◌&&◌, List, [], ◌∷◌, ◌++◌, length, get_or, take, drop, Result, Ok, Err, ℤ, refl, sym, ap, subst, ◌∙◌, append_assoc, arith, inl, inr, to_z-of_z, SFits}
use Rattle.std.specs.List.{flat_map}
use Rattle.std.specs.Int.{Width, w8, w16, w32, w64, byte_len, from_be_bytes, to_be_bytes, cast_signed, cast_unsigned}
use mir.Facts.{Fits-of_z}
use Rattle.std.proofs.lemmas.Bool.{cases_lt, leb-true, le-leb, le-ltb, lt-ltb, ltb-true, ltb-false}
use Rattle.std.proofs.lemmas.List.{take_at, drop_at, length-append, get_or-drop, get_or-take, get_or_past}
use Rattle.std.proofs.lemmas.Nat.{from_be_bytes-to_be_bytes_2, from_be_bytes-to_be_bytes_4, from_be_bytes-to_be_bytes_8}
use Rattle.refusals.specs.declared.Refusal.{Refusal}
use Rattle.refusals.specs.declared.Refusal.TheVariants.{WrongLength, OutOfRange}
use Rattle.fields.specs.Cursor.{Cursor, past, ◌>>=◌, require, bytes_of, number, signed_number}
use Rattle.fields.specs.Codec.{Codec, any, tested, ranged, signed, pair, named, many, all_fit, chained, counted}

-- ---- results

pub bind_ok : {A B : Type 0} (r : Result A Refusal) (f : A → Result B Refusal) {y : B} → (r >>= f) ≡ Ok y → (x : A) × (r ≡ Ok x) × (f x ≡ Ok y)
bind_ok (Ok x) f e = (x, refl, e)
bind_ok (Err d) f e = absurd cc

pub require_ok : {A : Type 0} (b : Bool) (d : Refusal) (r : Result A Refusal) {y : A} → require b d r ≡ Ok y → (b ≡ true) × (r ≡ Ok y)
require_ok true d r e = (refl, e)
require_ok false d r e = absurd cc

abbrev pub done : {A : Type 0} → A → Result A Refusal
done x = Ok x

pub ok_is : {A : Type 0} {x y : A} → done x ≡ done y → x ≡ y
ok_is e = cc

pub both : {a b : Bool} → a ≡ true → b ≡ true → (a && b) ≡ true
both p q = rw (p, q) refl

pub each : (a b : Bool) → (a && b) ≡ true → (a ≡ true) × (b ≡ true)
each true b e = (refl, e)
each false b e = absurd cc

-- ---- bytes

abbrev pub IsBytes : List ℕ → Type 0
IsBytes bytes = (i : ℕ) → get_or bytes i 0 < 256

IsBytes-drop : (n : ℕ) (bytes : List ℕ) → IsBytes bytes → IsBytes (drop n bytes)
IsBytes-drop n bytes h i = rw get_or-drop (h (n + i))

IsBytes-take : (n : ℕ) (bytes : List ℕ) → IsBytes bytes → IsBytes (take n bytes)
IsBytes-take n bytes h i =
    elim (cases_lt i n) [
      | inl lt ↦ rw (get_or-take n bytes i 0 lt) (h i)
      | inr le ↦ rw (get_or_past (take n bytes) i 0 (omega (arith, Rattle.std.proofs.lemmas.List.length-take n bytes))) (omega arith)
    ]

-- ---- what each codec keeps

pub record IsLawful {A : Type 0} (c : Codec A) : Type 0 where
  -- what is spelled so is read, whatever follows
  pub again : (x : A) (at : ℕ) (rest : List ℕ) → c.fits x ≡ true
      → c.reading (record { at = at; rest = c.spelling x ++ rest }) ≡ Ok (x, record { at = at + length (c.spelling x); rest = rest })
  -- what is read fits, and bytes are left
  pub found : (old : Cursor) {x : A} {new : Cursor} → IsBytes old.rest → c.reading old ≡ Ok (x, new) → (c.fits x ≡ true) × IsBytes new.rest

-- ---- numbers

pub record IsWide (w : Width) : Type 0 where
  pub long : (n : ℕ) → length (to_be_bytes w n) ≡ byte_len w
  pub again : (n : ℕ) → n < 256 ^ byte_len w → from_be_bytes w (to_be_bytes w n) ≡ n
  pub below : (bytes : List ℕ) → IsBytes bytes → from_be_bytes w bytes < 256 ^ byte_len w

pub wide8 : IsWide w8
wide8 = record { long = λ n. refl; again = λ n lt. same n lt; below = λ bytes fits. omega (arith, fits 0) }
  where
    same : (n : ℕ) → n < 256 → from_be_bytes w8 (to_be_bytes w8 n) ≡ n
    same n lt = omega arith

pub wide16 : IsWide w16
wide16 = record { long = λ n. refl; again = λ n lt. from_be_bytes-to_be_bytes_2 n lt; below = λ bytes fits. omega (arith, fits 0, fits 1) }

pub wide32 : IsWide w32
wide32 = record { long = λ n. refl; again = λ n lt. from_be_bytes-to_be_bytes_4 n lt; below = λ bytes fits. omega (arith, fits 0, fits 1, fits 2, fits 3) }

pub wide64 : IsWide w64
wide64 = record {
  long = λ n. refl;
  again = λ n lt. from_be_bytes-to_be_bytes_8 n lt;
  below = λ bytes fits. omega (arith, fits 0, fits 1, fits 2, fits 3, fits 4, fits 5, fits 6, fits 7);
}

pub number_again : (w : Width) → IsWide w → (n at : ℕ) (rest : List ℕ) → n < 256 ^ byte_len w
    → number w (record { at = at; rest = to_be_bytes w n ++ rest }) ≡ Ok (n, record { at = at + length (to_be_bytes w n); rest = rest })
number_again w wide n at rest lt =
    let len = wide.long n in
    let long : ltb (length (to_be_bytes w n ++ rest)) (byte_len w) ≡ false = le-ltb _ _ (omega (arith, length-append (to_be_bytes w n) rest)) in
    rw (long, take_at (to_be_bytes w n) rest (byte_len w) len, drop_at (to_be_bytes w n) rest (byte_len w) len, wide.again n lt, len) refl

-- which bytes a number was read from
pub number_from : (w : Width) (old : Cursor) {n : ℕ} {new : Cursor} → number w old ≡ Ok (n, new)
    → (n ≡ from_be_bytes w (take (byte_len w) old.rest)) × (new ≡ past (byte_len w) old)
number_from w old e =
    let b = bind_ok (bytes_of (byte_len w) old) (λ bytes. Ok (from_be_bytes w bytes.0, bytes.1)) e in
    let t = whole (ltb (length old.rest) (byte_len w)) b.1 in
    (ap (λ (x : ℕ × Cursor). x.0) (sym (ok_is b.2)) ∙ ap (λ (x : List ℕ × Cursor). from_be_bytes w x.0) (sym t), ap (λ (x : ℕ × Cursor). x.1) (sym (ok_is b.2)) ∙ ap (λ (x : List ℕ × Cursor). x.1) (sym t))
  where
    whole : (b : Bool) {x : List ℕ × Cursor} → cond b (Err (WrongLength old.at)) (done (take (byte_len w) old.rest, past (byte_len w) old)) ≡ Ok x
        → (take (byte_len w) old.rest, past (byte_len w) old) ≡ x
    whole true h = absurd cc
    whole false h = ok_is h

pub number_found : (w : Width) → IsWide w → (old : Cursor) {n : ℕ} {new : Cursor} → IsBytes old.rest → number w old ≡ Ok (n, new) → (n < 256 ^ byte_len w) × IsBytes new.rest
number_found w wide old fits e =
    let k = byte_len w in
    let f = number_from w old e in
    (rw f.0 (wide.below (take k old.rest) (IsBytes-take k old.rest fits)), rw f.1 (IsBytes-drop k old.rest fits))

pub any_lawful : (w : Width) → IsWide w → IsLawful (any w)
any_lawful w wide = record {
  again = λ n at rest fits. number_again w wide n at rest (ltb-true n (256 ^ byte_len w) fits);
  found = λ old fits e. let t = number_found w wide old fits e in (lt-ltb _ (256 ^ byte_len w) t.0, t.1);
}

pub tested_lawful : {A : Type 0} (test : A → Bool) (a : Codec A) → IsLawful a → IsLawful (tested test a)
tested_lawful test a law = record {
  again = λ x at rest fits. let f = each (a.fits x) (test x) fits in rw (law.again x at rest f.0, f.1) refl;
  found = λ old {x} {new} fits e.
      let b = bind_ok (a.reading old) (λ x. require (test x.0) (OutOfRange old.at) (Ok x)) e in
      let t = require_ok (test b.0.0) (OutOfRange old.at) (Ok b.0) b.2 in
      let f = law.found old {x = b.0.0} {new = b.0.1} fits b.1 in
      let is : b.0 ≡ (x, new) = ok_is t.1 in
      subst (λ y. ((a.fits y.0 && test y.0) ≡ true) × IsBytes y.1.rest) is (both f.0 t.0, f.1);
}

pub ranged_lawful : (w : Width) → IsWide w → (low high : ℕ) → IsLawful (ranged w low high)
ranged_lawful w wide low high = tested_lawful (λ n. leb low n && leb n high) (any w) (any_lawful w wide)

pub signed_lawful : (test : ℤ → Bool) → ((z : ℤ) → test z ≡ true → SFits w64 z) → IsLawful (signed test)
signed_lawful test small = record {
  again = λ z at rest fits.
      let f = small z fits in
      rw (number_again w64 wide64 (cast_unsigned w64 z) at rest (Fits-of_z f).fits, to_z-of_z f, fits) refl;
  found = λ old {x} {new} fits e.
      let b = bind_ok (signed_number old) (λ z. require (test z.0) (OutOfRange old.at) (Ok z)) e in
      let n = bind_ok (number w64 old) (λ n. Ok (cast_signed w64 n.0, n.1)) b.1 in
      let t = require_ok (test b.0.0) (OutOfRange old.at) (Ok b.0) b.2 in
      let f = number_found w64 wide64 old {n = n.0.0} {new = n.0.1} fits n.1 in
      let made : (cast_signed w64 n.0.0, n.0.1) ≡ b.0 = ok_is n.2 in
      let left : IsBytes b.0.1.rest = subst (λ y. IsBytes y.1.rest) made f.1 in
      subst (λ y. (test y.0 ≡ true) × IsBytes y.1.rest) (ok_is t.1) (t.0, left);
}

-- ---- one field and then another, and other names

pub pair_lawful : {A B : Type 0} (a : Codec A) (b : Codec B) → IsLawful a → IsLawful b → IsLawful (pair a b)
pair_lawful {A} {B} a b la lb = record {
  again = λ z at rest fits.
      let f = each (a.fits z.0) (b.fits z.1) fits in
      let x = a.spelling z.0 in
      let y = b.spelling z.1 in
      let long : at + length x + length y ≡ at + length (x ++ y) = omega (arith, length-append x y) in
      rw (append_assoc x y rest, la.again z.0 at (y ++ rest) f.0, lb.again z.1 (at + length x) rest f.1, long) refl;
  found = λ old {x} {new} fits e.
      let p = bind_ok (a.reading old) (λ x. b.reading x.1 >>= λ y. Ok ((x.0, y.0), y.1)) e in
      let q = bind_ok (b.reading p.0.1) (λ y. Ok ((p.0.0, y.0), y.1)) p.2 in
      let t = la.found old {x = p.0.0} {new = p.0.1} fits p.1 in
      let u = lb.found p.0.1 {x = q.0.0} {new = q.0.1} t.1 q.1 in
      let made : (A × B) × Cursor = ((p.0.0, q.0.0), q.0.1) in
      subst (λ (y : (A × B) × Cursor). ((a.fits y.0.0 && b.fits y.0.1) ≡ true) × IsBytes y.1.rest) (ok_is {x = made} q.2) (both t.0 u.0, u.1);
}

pub named_lawful : {A B : Type 0} (make : A → B) (parts : B → A) (a : Codec A) → ((x : A) → parts (make x) ≡ x) → ((y : B) → make (parts y) ≡ y)
    → IsLawful a → IsLawful (named make parts a)
named_lawful {A} {B} make parts a there back la = record {
  again = λ y at rest fits. rw (la.again (parts y) at rest fits, back y) refl;
  found = λ old {x} {new} fits e.
      let p = bind_ok (a.reading old) (λ x. Ok (make x.0, x.1)) e in
      let t = la.found old {x = p.0.0} {new = p.0.1} fits p.1 in
      let made : B × Cursor = (make p.0.0, p.0.1) in
      subst (λ (y : B × Cursor). (a.fits (parts y.0) ≡ true) × IsBytes y.1.rest) (ok_is {x = made} p.2) (rw (there p.0.0) t.0, t.1);
}

-- ---- lists

module _ {A S : Type 0} (item : S → Codec A) (leaves : A → S) (law : (s : S) → IsLawful (item s)) where
  pub many_again : (spelling : A → List ℕ) → ((s : S) (x : A) → (item s).spelling x ≡ spelling x) → (seen : S) (xs : List A) (at : ℕ) (rest : List ℕ)
      → all_fit item leaves seen xs ≡ true
      → many item leaves seen (length xs) (record { at = at; rest = flat_map spelling xs ++ rest }) ≡ Ok (xs, record { at = at + length (flat_map spelling xs); rest = rest })
  unfolding many all_fit
  many_again spelling same seen [] at rest fits = ap (λ (k : ℕ). Ok ([], record { at = k; rest = rest })) (omega arith)
  many_again spelling same seen (x ∷ xs) at rest fits =
      let f = each ((item seen).fits x) (all_fit item leaves (leaves x) xs) fits in
      let s = spelling x in
      let t = flat_map spelling xs in
      let long : at + length s + length t ≡ at + length (s ++ t) = omega (arith, length-append s t) in
      let first : (item seen).reading (record { at = at; rest = s ++ (t ++ rest) }) ≡ Ok (x, record { at = at + length s; rest = t ++ rest }) =
      subst (λ (z : List ℕ). (item seen).reading (record { at = at; rest = z ++ (t ++ rest) }) ≡ Ok (x, record { at = at + length z; rest = t ++ rest })) (same seen x) ((law seen).again x at (t ++ rest) f.0) in
      rw (append_assoc s t rest, first, many_again spelling same (leaves x) xs (at + length s) rest f.1, long) refl

  pub many_found : (seen : S) (n : ℕ) (old : Cursor) {xs : List A} {new : Cursor} → IsBytes old.rest → many item leaves seen n old ≡ Ok (xs, new)
      → (length xs ≡ n) × (all_fit item leaves seen xs ≡ true) × IsBytes new.rest
  unfolding many all_fit
  many_found seen zero old {xs} {new} fits e =
      let made : List A × Cursor = ([], old) in
      subst (λ (y : List A × Cursor). (length y.0 ≡ 0) × (all_fit item leaves seen y.0 ≡ true) × IsBytes y.1.rest) (ok_is {x = made} e) (refl, refl, fits)
  many_found seen (suc n) old {xs} {new} fits e =
      let p = bind_ok ((item seen).reading old) (λ x. many item leaves (leaves x.0) n x.1 >>= λ ys. Ok (x.0 ∷ ys.0, ys.1)) e in
      let q = bind_ok (many item leaves (leaves p.0.0) n p.0.1) (λ ys. Ok (p.0.0 ∷ ys.0, ys.1)) p.2 in
      let t = (law seen).found old {x = p.0.0} {new = p.0.1} fits p.1 in
      let u = many_found (leaves p.0.0) n p.0.1 {xs = q.0.0} {new = q.0.1} t.1 q.1 in
      let made : List A × Cursor = (p.0.0 ∷ q.0.0, q.0.1) in
      subst (λ (y : List A × Cursor). (length y.0 ≡ suc n) × (all_fit item leaves seen y.0 ≡ true) × IsBytes y.1.rest) (ok_is {x = made} q.2) (ap suc u.0, both t.0 u.1, u.2)

  pub chained_lawful : (w : Width) → IsWide w → (most : ℕ) → most < 256 ^ byte_len w → (seen : S) → ((s : S) (x : A) → (item s).spelling x ≡ (item seen).spelling x)
      → IsLawful (chained w most item leaves seen)
  chained_lawful w wide most small seen same =
      let number = ranged_lawful w wide 0 most in record {
        again = λ xs at rest fits.
            let f = each (leb (length xs) most) (all_fit item leaves seen xs) fits in
            let s = to_be_bytes w (length xs) in
            let t = flat_map (item seen).spelling xs in
            let long : at + length s + length t ≡ at + length (s ++ t) = omega (arith, length-append s t) in
            let le = leb-true (length xs) most f.0 in
            let fit : (ranged w 0 most).fits (length xs) ≡ true = both (lt-ltb (length xs) (256 ^ byte_len w) (omega arith)) (both (le-leb 0 (length xs) (omega arith)) f.0) in
            rw (append_assoc s t rest, number.again (length xs) at (t ++ rest) fit, many_again (item seen).spelling same seen xs (at + length s) rest f.1, long) refl;
        found = λ old {x} {new} fits e.
            let p = bind_ok ((ranged w 0 most).reading old) (λ n. many item leaves seen n.0 n.1) e in
            let t = number.found old {x = p.0.0} {new = p.0.1} fits p.1 in
            let u = many_found seen p.0.0 p.0.1 {xs = x} {new = new} t.1 p.2 in
            let few = each (leb 0 p.0.0) (leb p.0.0 most) (each _ (leb 0 p.0.0 && leb p.0.0 most) t.0).1 in
            (both (rw u.0 few.1) u.1, u.2);
      }

pub counted_lawful : {A : Type 0} (w : Width) → IsWide w → (most : ℕ) → most < 256 ^ byte_len w → (item : Codec A) → IsLawful item → IsLawful (counted w most item)
counted_lawful w wide most small item law = chained_lawful (λ (_ : Unit {0}). item) (λ _. tt) (λ _. law) w wide most small tt (λ _ x. refl)

-- as many are read as are asked for
pub many_length : {A S : Type 0} (item : S → Codec A) (leaves : A → S) (seen : S) (n : ℕ) (old : Cursor) {xs : List A} {new : Cursor} → many item leaves seen n old ≡ Ok (xs, new) → length xs ≡ n
unfolding many
many_length {A} item leaves seen zero old e = let made : List A × Cursor = ([], old) in ap (λ (x : List A × Cursor). length x.0) (sym (ok_is {x = made} e))
many_length {A} item leaves seen (suc n) old e =
    let p = bind_ok ((item seen).reading old) (λ x. many item leaves (leaves x.0) n x.1 >>= λ ys. Ok (x.0 ∷ ys.0, ys.1)) e in
    let q = bind_ok (many item leaves (leaves p.0.0) n p.0.1) (λ ys. Ok (p.0.0 ∷ ys.0, ys.1)) p.2 in
    let made : List A × Cursor = (p.0.0 ∷ q.0.0, q.0.1) in
    ap (λ (x : List A × Cursor). length x.0) (sym (ok_is {x = made} q.2)) ∙ ap suc (many_length item leaves (leaves p.0.0) n p.0.1 q.1)

-- ---- what a field that was read is made of

pub number_room : (w : Width) (old : Cursor) {x : ℕ × Cursor} → number w old ≡ Ok x → byte_len w ≤ length old.rest
number_room w old {x} e =
    let b = bind_ok (bytes_of (byte_len w) old) (λ bytes. Ok (from_be_bytes w bytes.0, bytes.1)) e in
    room (ltb (length old.rest) (byte_len w)) refl b.1
  where
    room : (b : Bool) {y : List ℕ × Cursor} → ltb (length old.rest) (byte_len w) ≡ b → cond b (Err (WrongLength old.at)) (done (take (byte_len w) old.rest, past (byte_len w) old)) ≡ Ok y → byte_len w ≤ length old.rest
    room true e h = absurd cc
    room false e h = ltb-false _ _ e

pub tested_parts : {A : Type 0} (test : A → Bool) (a : Codec A) (old : Cursor) {x : A × Cursor} → (tested test a).reading old ≡ Ok x → (a.reading old ≡ Ok x) × (test x.0 ≡ true)
tested_parts test a old {x} e =
    let b = bind_ok (a.reading old) (λ x. require (test x.0) (OutOfRange old.at) (Ok x)) e in
    let t = require_ok (test b.0.0) (OutOfRange old.at) (Ok b.0) b.2 in
    (b.1 ∙ t.1, ap (λ y. test y.0) (sym (ok_is {x = b.0} {y = x} t.1)) ∙ t.0)

pub signed_parts : (test : ℤ → Bool) (old : Cursor) {x : ℤ × Cursor} → (signed test).reading old ≡ Ok x → signed_number old ≡ Ok x
signed_parts test old {x} e =
    let b = bind_ok (signed_number old) (λ x. require (test x.0) (OutOfRange old.at) (Ok x)) e in
    b.1 ∙ (require_ok (test b.0.0) (OutOfRange old.at) (Ok b.0) b.2).1

pub pair_parts : {A B : Type 0} (a : Codec A) (b : Codec B) (old : Cursor) {x : (A × B) × Cursor} → (pair a b).reading old ≡ Ok x
    → (c : Cursor) × (a.reading old ≡ Ok (x.0.0, c)) × (b.reading c ≡ Ok (x.0.1, x.1))
pair_parts {A} {B} a b old {x} e =
    let p = bind_ok (a.reading old) (λ x. b.reading x.1 >>= λ y. Ok ((x.0, y.0), y.1)) e in
    let q = bind_ok (b.reading p.0.1) (λ y. Ok ((p.0.0, y.0), y.1)) p.2 in
    let made : (A × B) × Cursor = ((p.0.0, q.0.0), q.0.1) in
    let is : made ≡ x = ok_is q.2 in
    (p.0.1, p.1 ∙ ap (λ (z : (A × B) × Cursor). Ok (z.0.0, p.0.1)) is, q.1 ∙ ap (λ (z : (A × B) × Cursor). Ok (z.0.1, z.1)) is)

pub named_parts : {A B : Type 0} (make : A → B) (parts : B → A) (a : Codec A) → ((x : A) → parts (make x) ≡ x) → (old : Cursor) {y : B × Cursor} → (named make parts a).reading old ≡ Ok y
    → a.reading old ≡ Ok (parts y.0, y.1)
named_parts {A} {B} make parts a there old {y} e =
    let p = bind_ok (a.reading old) (λ x. Ok (make x.0, x.1)) e in
    let made : B × Cursor = (make p.0.0, p.0.1) in
    let is : made ≡ y = ok_is p.2 in
    let back : done (p.0.0, p.0.1) ≡ done (parts (make p.0.0), p.0.1) = ap (λ (x : A). done (x, p.0.1)) (sym (there p.0.0)) in
    p.1 ∙ back ∙ ap (λ (z : B × Cursor). Ok (parts z.0, z.1)) is

pub chained_parts : {A S : Type 0} (item : S → Codec A) (leaves : A → S) (w : Width) (most : ℕ) (seen : S) (old : Cursor) {x : List A × Cursor} → (chained w most item leaves seen).reading old ≡ Ok x
    → (n : ℕ) × (c : Cursor) × (number w old ≡ Ok (n, c)) × (many item leaves seen n c ≡ Ok x)
chained_parts item leaves w most seen old e =
    let p = bind_ok ((ranged w 0 most).reading old) (λ n. many item leaves seen n.0 n.1) e in
    (p.0.0, p.0.1, (tested_parts (λ n. leb 0 n && leb n most) (any w) old p.1).0, p.2)

-- a field is read in one way
pub same_read : {A : Type 0} (r : Result (A × Cursor) Refusal) {x y : A × Cursor} → r ≡ Ok x → r ≡ Ok y → x ≡ y
same_read r e f = ok_is (sym e ∙ f)
