-- What is taken stands behind what was written.
use Rattle.std.proofs.Common.{ℕ, ◌+◌, ◌-◌, ◌≤◌, ◌≡◌, List, ◌++◌, ap, sym, subst, ◌∙◌, arith, length, take, drop, length-drop}
use Rattle.std.proofs.lemmas.List.{take_all}
use Rattle.std.proofs.Math.Seq.{take-add}
use Rattle.std.specs.Io.KnownBytes.{Appends}
use Rattle.std.proofs.KnownBytes.{Appends-trans}
use Rattle.leafnet_text.proofs.output.write_text.Goals as goal

pub loop-done-preserved : goal.loop-done-preserved
loop-done-preserved g c =
    let text : List ℕ = c.args.text.now in
    let done = c.loop-done.done in
    let n = c.in_ok-done.field-0 in
    let rest : take (length text - done) (drop done text) ≡ drop done text = take_all _ _ (omega (arith, length-drop done text)) in
    let taken : n ≤ length (drop done text) = rw rest at c.in_ok-done.ensures.within in
    let more : take done text ++ take n (take (length text - done) (drop done text)) ≡ take (done + n) text =
    ap (λ l. take done text ++ take n l) rest ∙ sym (take-add done n text) in
    record {
      within = omega (arith, taken, length-drop done text, c.loop-done.invariant.within);
      written =
          subst (Appends (g.W.WriteEnd.contents c.args.writer.now) (g.W.WriteEnd.contents c.write_retrying.new.writer)) more
          (Appends-trans _ _ _ (take done text) _ c.loop-done.invariant.written c.in_ok-done.ensures.bytes);
    }
