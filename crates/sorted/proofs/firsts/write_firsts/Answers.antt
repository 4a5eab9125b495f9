use Rattle.std.proofs.Common.{◌≡◌, ◌+◌, ◌-◌, ◌<◌, inl, inr, ⊎_elim, ℕ, [], refl, length, get_or, take, sym, ap, ◌∙◌, subst, arith}
use mathlib.Core.Bool.{false≢true}
use Rattle.std.proofs.lemmas.Bool.{cases_lt}
use Rattle.std.proofs.lemmas.List.{get_or_default}
use Rattle.sorted.specs.Firsts.{IsFirst}
use Rattle.sorted.proofs.Alike.{is_entry, begins, goes_on, put_first, all_firsts}
use Rattle.sorted.proofs.firsts.write_firsts.Goals.{then-k-eq0, then-k-eq0-via-then-k-eq0, then-k-eq0-via-else-k-eq0+then-not-are_alike, else-k-eq0+else-not-are_alike}
use Rattle.sorted.proofs.firsts.write_firsts.Goals as goal

pub offset_bounds-firsts-number : goal.offset_bounds-firsts-number
offset_bounds-firsts-number g c =
    let r = c.requires in
    let p = is_entry (g.E.Entries.entry c.args.from.now) (g.row.N - 1) (length c.args.firsts.now) c.args.entries.now r.in_order r.numbered c.loop-k.k c.loop-k-test.true in
    let l = c.loop-k.auto.firsts in
    let n = p.0 in
    let f = c.well_formed in
    omega arith

pub bounds-firsts-number : goal.bounds-firsts-number
bounds-firsts-number g c =
    let r = c.requires in
    let p = is_entry (g.E.Entries.entry c.args.from.now) (g.row.N - 1) (length c.args.firsts.now) c.args.entries.now r.in_order r.numbered c.loop-k.k c.loop-k-test.true in
    let l = c.loop-k.auto.firsts in
    let n = p.0 in
    omega arith

pub loop-k-preserved : goal.loop-k-preserved
loop-k-preserved g c =
    let entry = g.E.Entries.entry c.args.from.now in
    let m = g.row.N - 1 in
    let n = length c.args.firsts.now in
    let row = c.args.entries.now in
    let O = c.requires.in_order in
    let N = c.requires.numbered in
    let k = c.loop-k.k in
    let h = c.loop-k-test.true in
    let I = c.loop-k.invariant in
    let at = λ (j : ℕ). get_or (get_or row j []) m 0 in
    let key = λ (i : ℕ). take m (entry i) in
    let p = (is_entry entry m n row O N k h).0 in
    let l = c.loop-k.auto.firsts in
    let first : IsFirst key (at k) c.if-k-eq0.first =
    elim c.if-k-eq0.branch [
      | then-k-eq0 w ↦ elim w.then-k-eq0.branch [
        | then-k-eq0-via-then-k-eq0 w' ↦ rw w.first-is (begins entry m n row O N k h (inl w'.if-k-eq0.true))
        | then-k-eq0-via-else-k-eq0+then-not-are_alike w' ↦
            let a = w'.index-entries-k.is ∙ get_or_default row (k - 1) w'.index-entries-k.result [] (omega arith) in
            let b = w'.index-entries-k-else-k-eq0.is ∙ get_or_default row k w'.index-entries-k-else-k-eq0.result [] h in
            rw w.first-is (begins entry m n row O N k h (inr (λ e. false≢true (w'.if-not-are_alike.ensures.1 (ap (take m) a ∙ e ∙ ap (take m) (sym b))))))
      ]
      | else-k-eq0+else-not-are_alike w ↦
          let z = w.if-k-eq0.false in
          let a = w.index-entries-k.is ∙ get_or_default row (k - 1) w.index-entries-k.result [] (omega arith) in
          let b = w.index-entries-k-else-k-eq0.is ∙ get_or_default row k w.index-entries-k-else-k-eq0.result [] h in
          rw w.first-is (goes_on entry m n row O N k c.loop-k.first (omega arith) h (ap (take m) (sym a) ∙ w.if-not-are_alike.ensures.0 refl ∙ ap (take m) b) (I.run (omega arith)))
    ] in
    record {
      done = λ j q. put_first entry m n row O N c.loop-k.firsts (at k) c.if-k-eq0.first (at j) (omega arith) first
          (⊎_elim (λ (o : j < k). inr (I.done j o)) (λ o. inl (ap at (let e : j ≡ k = omega arith in e))) (cases_lt j k));
      run = λ _. subst (λ j. IsFirst key (at j) c.if-k-eq0.first) (let e : k ≡ k + 1 - 1 = omega arith in e) first;
    }

pub returns : goal.returns
returns g c =
    let r = c.requires in
    let l = c.loop-k.auto.firsts in
    λ i h. all_firsts (g.E.Entries.entry c.args.from.now) (g.row.N - 1) (length c.args.firsts.now) c.args.entries.now r.in_order r.numbered c.loop-k.firsts
    (λ k b. c.loop-k.invariant.done k (let e = c.loop-k-test.false in omega arith)) i (omega arith)
