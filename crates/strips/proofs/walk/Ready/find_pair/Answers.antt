use Rattle.std.proofs.Common.{subst, length, drop, ◌<◌, ◌+◌, ◌≡◌, sym, ap₂, ◌∙◌, ℤ, List, ℕ, rules, w64, of_z, to_z, to_z-of_z}
use Rattle.std.specs.List.{position}
use Rattle.std.proofs.lemmas.List.{take_rest}
use Rattle.cell.specs.Ticks.{on}
use Rattle.cell.proofs.Offsets.{on_fits}
use Rattle.strips.specs.Walk.{crosses_at, BeginAtPoints}
use Rattle.strips.specs.declared.walk.Ready.{Ready}
use Rattle.strips.proofs.Begins.{edges-begin}
use Rattle.strips.proofs.Pairs.{none_left, none_found, one_found, both_found}
use Rattle.strips.proofs.walk.Ready.find_pair.Goals as goal

-- each edge of the ring begins at one of its points
begins : (r : Ready) → BeginAtPoints (length r.points.now) r.edges.now
begins r = subst (λ (es : List ℕ). BeginAtPoints (length r.points.now) es) (sym r.edges_in_order) (edges-begin r.points.now r.few)

pub returns-in_err-rest : goal.returns-in_err-rest
returns-in_err-rest c = λ hi b.
    let a = c.args in
    let r = a.self.now in
    let h : length r.edges.now < a.j = search rules in
    rw c.from_residual.ensures (none_left r.points.now a.lo hi b r.edges.now (begins r) a.j h)

pub returns-in_err-a : goal.returns-in_err-a
returns-in_err-a c = λ hi b.
    let a = c.args in
    let r = a.self.now in
    let low : to_z w64 (of_z w64 c.ticks-low.result) ≡ on a.lo = rw c.ticks-low.ensures (to_z-of_z (on_fits a.lo)) in
    let d : c.in_ok-rest.rest.now ≡ drop a.j r.edges.now = c.in_ok-rest.ensures.lookup.0.2 ∙ take_rest r.edges.now a.j in
    let e : c.find.result ≡ position (crosses_at r.points.now (on a.lo)) (drop a.j r.edges.now) =
    c.find.ensures ∙ ap₂ (λ (z : ℤ) (t : List ℕ). position (crosses_at r.points.now z) t) low d in
    rw c.from_residual-in_err-a.ensures
    (none_found r.points.now a.lo hi b r.edges.now (begins r) a.j (sym e ∙ c.in_err-a.was))

pub returns-in_err-b : goal.returns-in_err-b
returns-in_err-b c = λ hi b.
    let a = c.args in
    let r = a.self.now in
    let low : to_z w64 (of_z w64 c.ticks-low.result) ≡ on a.lo = rw c.ticks-low.ensures (to_z-of_z (on_fits a.lo)) in
    let d : c.in_ok-rest.rest.now ≡ drop a.j r.edges.now = c.in_ok-rest.ensures.lookup.0.2 ∙ take_rest r.edges.now a.j in
    let e : c.find.result ≡ position (crosses_at r.points.now (on a.lo)) (drop a.j r.edges.now) =
    c.find.ensures ∙ ap₂ (λ (z : ℤ) (t : List ℕ). position (crosses_at r.points.now z) t) low d in
    let n = c.in_ok-a.field-0 in
    let f : c.find-2.result ≡ position (crosses_at r.points.now (on a.lo)) (drop (a.j + n + 1) r.edges.now) =
    c.find-2.ensures ∙ ap₂ (λ (z : ℤ) (t : List ℕ). position (crosses_at r.points.now z) t) low (take_rest r.edges.now (a.j + n + 1)) in
    rw c.from_residual-in_err-b.ensures
    (one_found r.points.now a.lo hi b r.edges.now (begins r) a.j n (sym e ∙ c.in_ok-a.was) (sym f ∙ c.in_err-b.was))

pub returns : goal.returns
returns c = λ hi b.
    let a = c.args in
    let r = a.self.now in
    let low : to_z w64 (of_z w64 c.ticks-low.result) ≡ on a.lo = rw c.ticks-low.ensures (to_z-of_z (on_fits a.lo)) in
    let d : c.in_ok-rest.rest.now ≡ drop a.j r.edges.now = c.in_ok-rest.ensures.lookup.0.2 ∙ take_rest r.edges.now a.j in
    let e : c.find.result ≡ position (crosses_at r.points.now (on a.lo)) (drop a.j r.edges.now) =
    c.find.ensures ∙ ap₂ (λ (z : ℤ) (t : List ℕ). position (crosses_at r.points.now z) t) low d in
    let n = c.in_ok-a.field-0 in
    let f : c.find-2.result ≡ position (crosses_at r.points.now (on a.lo)) (drop (a.j + n + 1) r.edges.now) =
    c.find-2.ensures ∙ ap₂ (λ (z : ℤ) (t : List ℕ). position (crosses_at r.points.now z) t) low (take_rest r.edges.now (a.j + n + 1)) in
    both_found r.points.now a.lo hi b r.edges.now (begins r) a.j n c.in_ok-b.field-0 (sym e ∙ c.in_ok-a.was) (sym f ∙ c.in_ok-b.was)
