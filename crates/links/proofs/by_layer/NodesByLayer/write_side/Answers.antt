use Rattle.std.proofs.Common.{◌≡◌, ◌<◌, length, get_or, sym, ap, ◌∙◌, arith, w64, SFits, to_z-of_z, rules}
use Rattle.std.proofs.lemmas.List.{length-map}
use Rattle.refusals.specs.Said.{written}
use Rattle.links.specs.Lists.{numbers_of}
use Rattle.links.specs.Made.{inside}
use Rattle.links.proofs.Leads.{nearest-some}
use Rattle.links.proofs.Sides.{some-inside, is-none, is-one, none-written, one-written}
use Rattle.links.proofs.by_layer.NodesByLayer.write_side.Goals as goal

pub returns-then-count-gt0 : goal.returns-then-count-gt0
returns-then-count-gt0 c =
    let a = c.args in
    let w = c.write_inside-count.ensures in
    let ns = numbers_of a.candidates.now in
    let ins = inside a.self.now.nodes.now a.footprint.now ns in
    let n = w.count in
    let t = c.if-count-gt0.true in
    let e = some-inside a.self.now.nodes.now a.footprint.now ns ins (omega arith) in
    record { count = w.count ∙ ap length e; row = w.row ∙ ap (λ l. written l a.into.now) e }

pub returns-in_default : goal.returns-in_default
returns-in_default c =
    let a = c.args in
    let f = a.footprint.now in
    let x : SFits w64 f.x = search rules in
    let y : SFits w64 f.y = search rules in
    let none = simp (to_z-of_z x, to_z-of_z y) at c.in_default.ensures in
    let w = c.write_inside-count.ensures in
    let n = w.count in
    let t = c.if-count-gt0.false in
    let ns = numbers_of a.candidates.now in
    let ins = inside a.self.now.nodes.now f ns in
    let h : length ins ≡ 0 = omega arith in
    record {
      count = sym (ap length (is-none a.self.now.nodes.now f ns ins a.into.now _ h w.row none));
      row = none-written a.self.now.nodes.now f ns ins a.into.now _ h w.row none;
    }

pub bounds-into-0 : goal.bounds-into-0
bounds-into-0 c =
    let a = c.args in
    let some = nearest-some _ _ _ _ _ c.in-Some.ensures in
    let long = length-map a.candidates.now (λ e. get_or e 2 0) in
    let r = c.requires.room in
    let l = c.write_inside-count.auto.into in
    let h : 0 < length c.write_inside-count.new.into = omega arith in
    h

pub returns : goal.returns
returns c =
    let a = c.args in
    let f = a.footprint.now in
    let x : SFits w64 f.x = search rules in
    let y : SFits w64 f.y = search rules in
    let one = simp (to_z-of_z x, to_z-of_z y) at c.in-Some.ensures in
    let w = c.write_inside-count.ensures in
    let n = w.count in
    let t = c.if-count-gt0.false in
    let ns = numbers_of a.candidates.now in
    let ins = inside a.self.now.nodes.now f ns in
    let h : length ins ≡ 0 = omega arith in
    let some = nearest-some _ _ _ _ _ one in
    let long = length-map a.candidates.now (λ e. get_or e 2 0) in
    let r = c.requires.room in
    record {
      count = sym (ap length (is-one a.self.now.nodes.now f ns ins a.into.now _ h w.row c.in-Some.number one));
      row = one-written a.self.now.nodes.now f ns ins a.into.now _ h w.row c.in-Some.number (omega arith) one;
    }
