use Rattle.std.proofs.Common.{◌≡◌, ℕ, ◌+◌, ◌≤◌, false, ltb, eqb, List, [], ◌∷◌, ◌++◌, length, take, drop, Result, Ok, Err, refl, arith, length-append, length-drop}
use Rattle.std.proofs.lemmas.Bool.{le-ltb}
use Rattle.std.proofs.lemmas.List.{take-append-le, drop-append-le, drop_all}
use Rattle.std.specs.Int.{Width, w8, w32, byte_len, from_be_bytes}
use Rattle.refusals.specs.declared.Refusal.{Refusal}
use Rattle.refusals.specs.declared.Refusal.TheVariants.{WrongLength}
use Rattle.fields.specs.Cursor.{Cursor, ◌>>=◌, require, number}
use Rattle.fields.proofs.Laws.{wide8, number_again}
use Rattle.record.specs.declared.board.Version.{Version}
use Rattle.record.specs.declared.board.Version.TheVariants.{One}
use Rattle.record.specs.Board.{Board, version_of, limits_of, body, board}
use Rattle.record.specs.Laws.{DefaultIsFour}
use Rattle.record.proofs.laws.default_is_four.Goals as goal

abbrev from : ℕ → List ℕ → Cursor
from at rest = record { at = at; rest = rest }

-- a number that stands in front of others whole
number_at : (w : Width) (at : ℕ) (front rest : List ℕ) → byte_len w ≤ length front
    → number w (from at (front ++ rest)) ≡ Ok (from_be_bytes w (take (byte_len w) front), from (at + byte_len w) (drop (byte_len w) front ++ rest))
number_at w at front rest le =
    let long : ltb (length (front ++ rest)) (byte_len w) ≡ false = le-ltb _ _ (omega (arith, le, length-append front rest)) in
    rw (long, take-append-le (byte_len w) front rest le, drop-append-le (byte_len w) front rest le) refl

same_body : (v : Version) (at : ℕ) (behind : List ℕ) → (body (limits_of v)).reading (from at (255 ∷ behind)) ≡ (body (limits_of v)).reading (from at (4 ∷ behind))
unfolding body
same_body One at behind = rw (number_again w8 wide8 255 at behind (omega arith), number_again w8 wide8 4 at behind (omega arith)) refl

-- what is left of a record behind its version
abbrev behind_version : Cursor → Version → Result Board Refusal
behind_version c v =
    number w32 c >>= λ n. require (eqb n.0 (length n.1.rest)) (WrongLength c.at)
    ((body (limits_of v)).reading n.1 >>= λ b. require (eqb (length b.1.rest) 0) (WrongLength b.1.at) (Ok b.0))

same_behind : (v : Version) (front behind : List ℕ) → length front ≡ 4
    → behind_version (from 1 (front ++ 255 ∷ behind)) v ≡ behind_version (from 1 (front ++ 4 ∷ behind)) v
same_behind v front behind n =
    let long : 4 ≤ length front = omega (arith, n) in
    let none : drop 4 front ≡ [] = drop_all 4 front (omega (arith, n)) in
    rw (number_at w32 1 front (255 ∷ behind) long, number_at w32 1 front (4 ∷ behind) long, none, same_body v 5 behind) refl

-- whatever the version is, if it is one
same_version : {A : Type 0} (v : Result Version Refusal) (f g : Version → Result A Refusal) → ((v : Version) → f v ≡ g v) → (v >>= f) ≡ (v >>= g)
same_version (Ok v) f g h = h v
same_version (Err e) f g h = refl

default-is-four : DefaultIsFour
unfolding board
default-is-four front behind h =
    let four = drop 1 front in
    let long : 1 ≤ length front = omega (arith, h) in
    rw (number_at w8 0 front (255 ∷ behind) long, number_at w8 0 front (4 ∷ behind) long)
    (same_version (version_of (from_be_bytes w8 (take 1 front)))
    (behind_version (from 1 (four ++ 255 ∷ behind))) (behind_version (from 1 (four ++ 4 ∷ behind)))
    (λ v. same_behind v four behind (omega (arith, h, length-drop 1 front))))

pub returns : goal.returns
returns c = default-is-four
