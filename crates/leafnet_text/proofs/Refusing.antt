-- What a refusal says. Assumes nothing.
use Rattle.std.proofs.Common.{◌<◌, ◌≤◌, ◌≡◌, refl, length, le-leb, sym, ap, subst, ◌∙◌, Bool, true, false, cond, List, ℕ, Result, Err}
use Rattle.refusals.specs.declared.Refusal.{Refusal}
use borrow.Author.Tests.{lt-leb}
use Rattle.refusals.specs.Said.{Said, accepted, refused, refusal, is_accepted}
use Rattle.refusals.proofs.Settled.{as-refused}
use Rattle.build.proofs.Fitting.{refused-accepted}
use Rattle.leafnet_text.specs.Rooms.{input_room}
use Rattle.leafnet_text.specs.Boards.{board_in}
use Rattle.leafnet_text.specs.Output.{unless_refused, record_says, leafnet_says, Prints}

-- a refusal is what is said, whatever would be next
pub refused-first : (why : Refusal) (said next : Said) → refusal why ≡ said → unless_refused said next ≡ refusal why
refused-first why said next e = let r = as-refused why in ap (λ (s : Said). unless_refused s next) (sym e ∙ r.2) ∙ sym r.2

-- a refusal is not accepted
pub not-accepted : (why : Refusal) → is_accepted (refusal why) ≡ false
not-accepted why = let r = as-refused why in ap is_accepted r.2

-- a step that is accepted by a test has passed it
pub accepted-if : (b : Bool) (passed : Said) (why : Refusal) (vs : List ℕ) → accepted vs ≡ cond b passed (refusal why) → (b ≡ true) × (accepted vs ≡ passed)
accepted-if true passed why vs e = (refl, e)
accepted-if false passed why vs e = let r = as-refused why in absurd (refused-accepted r.0 r.1 vs (sym (e ∙ r.2)))

-- an answer that is this refusal
pub prints-refused : {A : Type 0} (r : Result A Refusal) (why : Refusal) (next : A → Said) (says : Said)
    → r ≡ Err why → says ≡ refusal why → Prints r next says
prints-refused r why next says e h = subst (λ x. Prints x next says) (sym e) h

-- input that is too long, and input that is read
pub too_long : (s : List ℕ) → input_room < length s → leafnet_says s ≡ refused 6 0
unfolding leafnet_says
too_long s h = rw (lt-leb (length s) input_room h) refl

pub short-enough : (s : List ℕ) → length s ≤ input_room → leafnet_says s ≡ record_says (board_in s)
unfolding leafnet_says
short-enough s h = rw (le-leb (length s) input_room h) refl
