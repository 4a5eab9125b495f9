use Rattle.std.proofs.Common.{ℕ, List, ◌∷◌, ◌≡◌, ◌+◌, ◌<◌, length, drop, get_or, add-one, drop-cons, drop_of_length-le, rules, sym, ap, ◌∙◌}
use Rattle.refusals.specs.Said.{refusal, is_accepted}
use Rattle.table.specs.Refine.{refined_said}
use Rattle.leafnet_text.specs.Refining.{refine_all_says, refine_all_row}
use Rattle.leafnet_text.proofs.Refusing.{not-accepted}
use Rattle.leafnet_text.proofs.Refining.{stepped, all-stop, all-done}
use Rattle.leafnet_text.proofs.mesh.refine_all.Goals as goal

-- the ids that are left at a turn, the first of them apart
next : (ids : List ℕ) (i : ℕ) → i < length ids → drop i ids ≡ get_or ids i 0 ∷ drop (i + 1) ids
next ids i h = rw (add-one i) (drop-cons ids i 0 h)

pub returns-in_err-latest : goal.returns-in_err-latest
returns-in_err-latest c =
    let s = c.loop-id in
    let x = c.in_err-latest in
    let ids = c.args.ids.now in
    let said : refined_said c.from_residual.result ≡ refusal x.field-0.0 = search rules in
    let left = next ids s.id-index c.loop-id-test.true in
    let stop = all-stop s.row s.latest (get_or ids s.id-index 0) (drop (s.id-index + 1) ids)
    (ap is_accepted (sym x.ensures.answer) ∙ not-accepted x.field-0.0) in
    record {
      says = said ∙ x.ensures.answer ∙ sym stop.0 ∙ ap (refine_all_says s.row s.latest) (sym left) ∙ s.invariant.says;
      row_after = x.ensures.row_after ∙ sym stop.1 ∙ ap (refine_all_row s.row s.latest) (sym left) ∙ s.invariant.row;
    }

pub loop-id-preserved : goal.loop-id-preserved
loop-id-preserved c =
    let s = c.loop-id in
    let ids = c.args.ids.now in
    let r = c.in_ok-latest in
    let left = next ids s.id-index c.loop-id-test.true in
    let go = stepped s.row s.latest (get_or ids s.id-index 0) (drop (s.id-index + 1) ids)
    c.refine.new.row r.latest r.ensures.answer r.ensures.row_after in
    record {
      says = go.0 ∙ ap (refine_all_says s.row s.latest) (sym left) ∙ s.invariant.says;
      row = go.1 ∙ ap (refine_all_row s.row s.latest) (sym left) ∙ s.invariant.row;
    }

pub returns : goal.returns
returns c =
    let s = c.loop-id in
    let none = drop_of_length-le c.args.ids.now {i = s.id-index} c.loop-id-test.false in
    let done = all-done s.row s.latest in
    record {
      says = sym done.0 ∙ ap (refine_all_says s.row s.latest) (sym none) ∙ s.invariant.says;
      row_after = sym done.1 ∙ ap (refine_all_row s.row s.latest) (sym none) ∙ s.invariant.row;
    }
