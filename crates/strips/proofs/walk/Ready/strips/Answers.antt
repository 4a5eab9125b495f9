use Rattle.std.proofs.Common.{◌≡◌, refl, ◌∙◌, lt-ltb, le-ltb}
use Rattle.strips.specs.Walk.{start_band}
use Rattle.strips.proofs.Crossing.{ready-strips}
use Rattle.strips.proofs.Walks.{started}
use Rattle.strips.proofs.walk.Ready.strips.Goals as goal
use Rattle.strips.proofs.walk.Ready.strips.Goals.{then-self-lt3, else-self-lt3}

pub returns : goal.returns
returns c =
    let r = c.args.self.now in
    let ps = r.points.now in
    let hs = r.heights.now in
    let band : c.if-self-lt3.band ≡ start_band ps hs =
    elim c.if-self-lt3.branch [
      | then-self-lt3 w ↦ w.band-is ∙ rw (lt-ltb _ _ w.if-self-lt3.true) refl
      | else-self-lt3 w ↦ w.band-is ∙ rw (le-ltb _ _ w.if-self-lt3.false) refl
    ] in
    rw band (started ps r.edges.now hs)
    ∙ ready-strips ps hs r.edges.now (record { few = r.few; heights = r.heights_in_order; edges = r.edges_in_order })
