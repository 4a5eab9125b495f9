-- What is judged does not depend on what comes after it. Assumes nothing.
use Rattle.std.proofs.Common.{◌≡◌, refl, sym, ap, ◌∙◌, Bool, true, false, ◌&&◌, List, [], ℕ, ℤ, Float, length, nat_le, Option, None, Some, if◌then◌else◌}
use Rattle.std.proofs.Common.{◌≤◌, arith}
use Rattle.std.proofs.lemmas.Bool.Decides.{nat_tests}
use Rattle.refusals.specs.Limits.{max_polygons}
use Rattle.refusals.specs.declared.Refusal.{Refusal}
use Rattle.refusals.specs.declared.Refusal.TheVariants.{OutOfRange, NoRoom, BadTable}
use Rattle.refusals.specs.Said.{Said, accepted, refused, refusal, is_accepted}
use Rattle.refusals.proofs.Settled.{as-refused}
use Rattle.table.specs.Rows.{leaves_in}
use Rattle.table.specs.declared.Head.{Head}
use Rattle.net_rows.specs.declared.rows.Polygons.{Polygons}
use Rattle.links.specs.declared.rows.Links.{Links}
use Rattle.links.specs.Judged.{links_in_range}
use Rattle.network.specs.Says.{Rows, fits, first_bad, unless_bad, judged, has_room, room_of, link_count, net_of, counted, filled, network_says, network_leaves}

-- one test behind the other
abbrev chain : Bool → Bool → Option ℕ → Bool → Said → Said
chain fit few bad good otherwise =
    if fit then (if few then unless_bad bad (if good then otherwise else refusal (OutOfRange 0)) else refusal (OutOfRange 0)) else refusal BadTable

chain-passed : (fit few : Bool) (bad : Option ℕ) (good : Bool) (o : Said) → accepted [] ≡ chain fit few bad good (accepted []) → chain fit few bad good o ≡ o
chain-passed false few bad good o e = cc e
chain-passed true false bad good o e = cc e
chain-passed true true (Some p) good o e = cc e
chain-passed true true None false o e = cc e
chain-passed true true None true o e = refl

chain-refused : (fit few : Bool) (bad : Option ℕ) (good : Bool) (o : Said) (n p : ℕ) → refused n p ≡ chain fit few bad good (accepted []) → chain fit few bad good o ≡ refused n p
chain-refused false few bad good o n p e = sym e
chain-refused true false bad good o n p e = sym e
chain-refused true true (Some q) good o n p e = sym e
chain-refused true true None false o n p e = sym e
chain-refused true true None true o n p e = cc e

pub fits-le : (a b : ℕ) → nat_le a b ≡ true → a ≤ b
fits-le a b e = grind (arith, nat_tests)

pub and-no : (b : Bool) → (b && false) ≡ false
and-no true = refl
and-no false = refl

-- what is said once all is judged, by the room there is
abbrev roomy : Bool → Said → Said
roomy b o = if b then o else refused 6 0

module _ (row : List ℤ) (head : Head) (ps : Polygons) (sheets : List Float) (links : Links) where
  -- what passes says what comes after it
  pub judged-passed : (o : Said) → accepted [] ≡ judged row head ps sheets links (accepted []) → judged row head ps sheets links o ≡ o
  unfolding judged
  judged-passed o = chain-passed (fits row head ps sheets) (nat_le (length ps.layers.now) max_polygons) (first_bad sheets) (links_in_range links) o

  -- and what is refused stays so
  pub judged-refused : (o : Said) (why : Refusal) → refusal why ≡ judged row head ps sheets links (accepted []) → judged row head ps sheets links o ≡ refusal why
  unfolding judged
  judged-refused o why e =
      let r = as-refused why in
      chain-refused (fits row head ps sheets) (nat_le (length ps.layers.now) max_polygons) (first_bad sheets) (links_in_range links) o r.0 r.1 (sym r.2 ∙ e) ∙ sym r.2

  module _ (lent : Rows) where
    abbrev made : ℕ
    made = link_count row head ps sheets links

    abbrev whole : Said
    whole = counted (net_of row head ps sheets links) made

    abbrev says : Said
    says = network_says row head ps sheets links lent

    abbrev left : Rows
    left = network_leaves row head ps sheets links lent

    pub says-refused : (why : Refusal) → refusal why ≡ judged row head ps sheets links (accepted []) → refusal why ≡ says
    unfolding network_says
    says-refused why e = sym (judged-refused (roomy (has_room (room_of lent) (length (leaves_in row head)) made) whole) why e)

    pub says-full : accepted [] ≡ judged row head ps sheets links (accepted []) → has_room (room_of lent) (length (leaves_in row head)) made ≡ false → refused 6 0 ≡ says
    unfolding network_says
    says-full e full = sym (judged-passed (roomy (has_room (room_of lent) (length (leaves_in row head)) made) whole) e ∙ ap (λ (b : Bool). roomy b whole) full)

    pub says-whole : accepted [] ≡ judged row head ps sheets links (accepted []) → has_room (room_of lent) (length (leaves_in row head)) made ≡ true → whole ≡ says
    unfolding network_says
    says-whole e room = sym (judged-passed (roomy (has_room (room_of lent) (length (leaves_in row head)) made) whole) e ∙ ap (λ (b : Bool). roomy b whole) room)

    -- a refused call leaves what it was lent
    pub left-alone : (why : Refusal) → refusal why ≡ says → lent ≡ left
    unfolding network_leaves
    left-alone why e =
        let r = as-refused why in
        ap (λ (o : Said). if is_accepted o then filled (net_of row head ps sheets links) lent else lent) (sym r.2 ∙ e)

    pub left-full : refused 6 0 ≡ says → lent ≡ left
    left-full = left-alone NoRoom

    pub left-filled : whole ≡ says → filled (net_of row head ps sheets links) lent ≡ left
    unfolding network_leaves
    left-filled e = ap (λ (o : Said). if is_accepted o then filled (net_of row head ps sheets links) lent else lent) e
