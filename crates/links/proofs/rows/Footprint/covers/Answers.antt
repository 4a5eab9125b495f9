use Rattle.std.proofs.Common.{Bool, ◌&&◌, leb, ap, ap₂, ◌∙◌, nat_abs, w64, SFits, to_z-of_z, rules}
use Rattle.links.proofs.Insides.{at_most, wide, high}
use Rattle.links.proofs.rows.Footprint.covers.Goals as goal

pub returns : goal.returns
returns c =
    let f = c.args.self.now in
    let n = c.args.node in
    let w : SFits w64 f.half_width = search rules in
    let h : SFits w64 f.half_height = search rules in
    let x : SFits w64 f.x = search rules in
    let y : SFits w64 f.y = search rules in
    let p : SFits w64 n.x = search rules in
    let q : SFits w64 n.y = search rules in
    let dx = simp (to_z-of_z p, to_z-of_z x) at c.abs_diff.ensures in
    let dy = simp (to_z-of_z q, to_z-of_z y) at c.abs_diff-2.ensures in
    simp (to_z-of_z w, to_z-of_z h)
    (ap₂ {C = Bool} (λ (a b : Bool). a && b)
    (ap (λ r. leb r (nat_abs f.half_width)) dx ∙ at_most _ _ (wide _ _ c.requires))
    (ap (λ r. leb r (nat_abs f.half_height)) dy ∙ at_most _ _ (high _ _ c.requires)))
