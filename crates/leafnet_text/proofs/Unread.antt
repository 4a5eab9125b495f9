-- Of input that is too long no more is read than shows it. Assumes nothing.
use Rattle.std.proofs.Common.{ℕ, ◌+◌, ◌<◌, ◌≡◌, refl, sym, ap, ◌∙◌, Bool, true, false, List, arith, leb, leb-true, length, take, length-take-le, subst, Option, Some, None}
use borrow.Author.Tests.{leb-false}
use Rattle.std.specs.Prelude.{IfSome}
use Rattle.std.proofs.lemmas.List.{take_all}
use Rattle.refusals.specs.Said.{Said}
use Rattle.leafnet_text.specs.Rooms.{input_room}
use Rattle.leafnet_text.specs.Output.{leafnet_says}
use Rattle.leafnet_text.proofs.Refusing.{too_long}

pub unread : (s : List ℕ) → leafnet_says (take (input_room + 1) s) ≡ leafnet_says s
unread s = by (leb (length s) input_room) refl
  where
    by : (b : Bool) → leb (length s) input_room ≡ b → leafnet_says (take (input_room + 1) s) ≡ leafnet_says s
    by true e = ap leafnet_says (take_all (input_room + 1) s (omega (arith, leb-true (length s) input_room e)))
    by false e =
        let more : input_room < length s = leb-false (length s) input_room e in
        let longer : input_room < length (take (input_room + 1) s) = omega (arith, length-take-le (input_room + 1) s (omega arith)) in
        too_long (take (input_room + 1) s) longer ∙ sym (too_long s more)

-- so what holds of what is said of the bytes that were read holds of what is said of all
pub by-all : (P : Said → Type 0) (left : Option (List ℕ)) (s : List ℕ) → IfSome left (λ input. s ≡ take (input_room + 1) input) → P (leafnet_says s)
    → IfSome left (λ input. P (leafnet_says input))
by-all P (Some input) s all holds = subst P (ap leafnet_says all ∙ unread input) holds
by-all P None s all holds = tt
