use Rattle.std.proofs.Common.{◌≡◌, false, sym, ◌∙◌, arith, get_or}
use Rattle.table.specs.Tables.{cells}
use Rattle.places.proofs.Within.{cell_within}
use Rattle.links.specs.Count.{meets}
use Rattle.links.proofs.Marks.{met-some, one-further}
use Rattle.links.proofs.Listing.{listed-met}
use Rattle.links.proofs.count.Corners.is_listed.Goals as goal

pub meets-requires : goal.meets-requires
meets-requires c =
    let r = c.requires in
    let low = r.listed.below r.room c.loop-place.place c.loop-place-test.true in
    let there = r.there in
    omega arith

pub returns-then-meets : goal.returns-then-meets
returns-then-meets c =
    let s = c.args.self.now in
    let n = c.args.near.now in
    let r = c.requires in
    let place = c.loop-place.place in
    sym (met-some (cells s.table) s.polygons c.args.node c.args.id (get_or n.ids place 0) (r.listed.below r.room place c.loop-place-test.true) (sym c.meets.ensures ∙ c.if-meets.true))

pub loop-place-preserved : goal.loop-place-preserved
loop-place-preserved c =
    let s = c.args.self.now in
    let n = c.args.near.now in
    one-further (λ j. meets (cells s.table) s.polygons c.args.node (get_or n.ids j 0) ≡ false) c.loop-place.place c.loop-place.invariant (sym c.meets.ensures ∙ c.if-meets.false)

pub returns : goal.returns
returns c =
    let s = c.args.self.now in
    let t = s.table in
    let r = c.requires in
    let there = r.there in
    let end = c.loop-place-test.false in
    sym
    (listed-met (cells t) s.polygons c.args.node c.args.near.now c.args.id r.listed r.room (λ i h. (cell_within t.row.now t.head t.formed i (omega arith)).area) r.inside
    (λ j h. c.loop-place.invariant j (omega arith)))
