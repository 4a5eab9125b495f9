-- From a board to its balanced table: what is said where a step refuses, and what an accepted step leaves. Assumes nothing.
use Rattle.std.proofs.Common.{ℕ, ◌/◌, ◌≡◌, refl, sym, ap, ◌∙◌, List, ◌∷◌, leb, ltb, ℤ, length, Result, Ok, Err}
use Rattle.std.specs.Prelude.{IfOk, OnOk}
use Rattle.refusals.specs.declared.Refusal.{Refusal}
use Rattle.refusals.specs.declared.Refusal.TheVariants.{OutOfRange, BadTable, NoRoom}
use Rattle.refusals.specs.Said.{Said, accepted, refused, refusal}
use Rattle.strips.specs.Said.{if_accepted}
use Rattle.table.specs.declared.Head.{Head}
use Rattle.table.specs.Rows.{head_values}
use Rattle.table.specs.Formed.{well_formed}
use Rattle.strips.proofs.Picking.{split}
use Rattle.build.specs.Board.{polygons, roots_of}
use Rattle.build.specs.Says.{built_said, rows_shaped, settings_ok, even_from, room_for, build_says}
use Rattle.build.proofs.Fitting.{refused-accepted, sound-passes, even-passes}
use Rattle.coarsest.specs.declared.Engine.TheVariants.{Balancing}
use Rattle.even.specs.Even.{even_cells, even_says, even_head, even_splits}
use Rattle.leafnet_text.specs.Rooms.{table_room}
use Rattle.leafnet_text.specs.Boards.{Given}
use Rattle.leafnet_text.specs.Growing.{roots_say, roots_row, roots_head, splits_say, split_row, split_head, balance_says, balanced_row, balanced_head, balance_splits}
use Rattle.leafnet_text.specs.Output.{unless_refused, mesh_says, table_says, board_says}
use Rattle.leafnet_text.proofs.Refusing.{accepted-if, refused-first}
use Rattle.leafnet_text.proofs.Refining.{same_head, all-head}

-- the values of an accepted balance
even-values : (row : List ℤ) (head : Head) (vs : List ℕ) → accepted vs ≡ even_says Balancing row head
    → accepted vs ≡ accepted (even_splits Balancing row head ∷ head_values (even_head Balancing row head))
unfolding even_says
even-values row head vs e =
    (accepted-if (leb (length (even_cells Balancing row head)) (length row / 8)) _ NoRoom vs (accepted-if (well_formed row head) _ BadTable vs e).1).1

-- a call that is refused by its first step, or said by the others
unless-unless : (first next last : Said) → unless_refused first (unless_refused next last) ≡ unless_refused (unless_refused first next) last
unless-unless (accepted values) next last = refl
unless-unless (refused number place) next last = refl

-- what an accepted board's mesh is
pub record Grown (g : Given) (its_splits : ℕ) (its_head : Head) (its_row : List ℤ) : Type 0 where
  pub head : its_head ≡ balanced_head g
  pub row : its_row ≡ balanced_row g
  pub splits : its_splits ≡ balance_splits g
  pub answer : mesh_says g ≡ accepted (its_splits ∷ head_values its_head)
  pub says : board_says g ≡ table_says g its_row its_head its_splits

module _ (g : Given) where
  -- what is said once nothing refuses, and from the splits on
  abbrev last : Said
  last = table_says g (balanced_row g) (balanced_head g) (balance_splits g)

  abbrev from_splits : Said
  from_splits = unless_refused (splits_say g) (balance_says g)

  -- the mesh is first
  meshed-first : board_says g ≡ unless_refused (mesh_says g) last
  unfolding board_says mesh_says
  meshed-first = ap (unless_refused (roots_say g)) (unless-unless (splits_say g) (balance_says g) last) ∙ unless-unless (roots_say g) from_splits last

  pub mesh-refused : (why : Refusal) → mesh_says g ≡ refusal why → board_says g ≡ refusal why
  mesh-refused why e = meshed-first ∙ refused-first why (mesh_says g) last (sym e)

  -- build refuses
  pub roots-refused : (why : Refusal) → refusal why ≡ roots_say g → mesh_says g ≡ refusal why
  unfolding mesh_says
  roots-refused why e = refused-first why (roots_say g) from_splits e

  -- build is accepted
  pub built-head : (r : Result Head Refusal) → built_said r ≡ roots_say g → IfOk r (λ head. head ≡ roots_head g)
  unfolding build_says
  built-head (Ok roots) e =
      let b = g.board in
      let vs = head_values roots in
      let o = room_for b (table_room / 8) (length (roots_of b)) in
      let shaped = (accepted-if (rows_shaped b.layers g.components g.sheets b.counts b.points table_room) _ BadTable vs e).1 in
      let sound = (accepted-if (settings_ok b) _ (OutOfRange 0) vs shaped).1 in
      let even = sound-passes g.sheets b.counts b.points (even_from b 0 (polygons b) o) vs 0 (polygons b) (sym sound) in
      let room = even-passes b o vs 0 (polygons b) even in
      same_head roots (roots_head g)
      (split (ltb (table_room / 8) (length (roots_of b))) (λ q. absurd (refused-accepted 6 0 vs (rw q at room))) (λ q. sym (rw q at room)))
  built-head (Err why) e = tt

  pub built-row : (r : Result Head Refusal) (before row : List ℤ) → built_said r ≡ roots_say g → row ≡ if_accepted (roots_say g) (roots_row g) before
      → OnOk r (row ≡ roots_row g)
  built-row (Ok roots) before row e left = left ∙ ap (λ (s : Said). if_accepted s (roots_row g) before) (sym e)
  built-row (Err why) before row e left = tt

  -- a split refuses
  pub split-refused : (roots : Head) (why : Refusal) → accepted (head_values roots) ≡ roots_say g → refusal why ≡ splits_say g → mesh_says g ≡ refusal why
  unfolding mesh_says
  split-refused roots why e f = ap (λ (s : Said). unless_refused s from_splits) (sym e) ∙ refused-first why (splits_say g) (balance_says g) f

  -- none does
  pub split-is : (head : Head) → accepted (head_values head) ≡ splits_say g → head ≡ split_head g
  split-is head e = all-head g.splits (roots_row g) (roots_head g) head e

  -- balance is what is said of the mesh
  balanced : (roots refined : Head) → accepted (head_values roots) ≡ roots_say g → accepted (head_values refined) ≡ splits_say g → mesh_says g ≡ balance_says g
  unfolding mesh_says
  balanced roots refined e f =
      ap (λ (s : Said). unless_refused s from_splits) (sym e) ∙ ap (λ (s : Said). unless_refused s (balance_says g)) (sym f)

  -- balance refuses
  pub balance-refused : (roots refined : Head) (why : Refusal) → accepted (head_values roots) ≡ roots_say g → accepted (head_values refined) ≡ splits_say g → refusal why ≡ balance_says g
      → mesh_says g ≡ refusal why
  balance-refused roots refined why e f h = balanced roots refined e f ∙ sym h

  -- nothing refuses
  pub grown : (roots refined : Head) (splits : ℕ) (head : Head) (row : List ℤ) → accepted (head_values roots) ≡ roots_say g → accepted (head_values refined) ≡ splits_say g
      → accepted (splits ∷ head_values head) ≡ balance_says g → row ≡ balanced_row g → Grown g splits head row
  grown roots refined splits head row e f h r =
      let v = even-values (split_row g) (split_head g) (splits ∷ head_values head) h in
      let s : splits ≡ balance_splits g = cc in
      let values : accepted (head_values head) ≡ accepted (head_values (balanced_head g)) = cc in
      let same = same_head head (balanced_head g) values in
      let said : mesh_says g ≡ accepted (splits ∷ head_values head) = balanced roots refined e f ∙ sym h in
      record {
        head = same;
        row = r;
        splits = s;
        answer = said;
        says = meshed-first ∙ ap (λ (s : Said). unless_refused s last) said ∙ sym (λ i. table_says g (r i) (same i) (s i));
      }
