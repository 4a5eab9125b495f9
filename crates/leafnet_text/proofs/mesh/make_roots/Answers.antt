-- What build says and leaves is what the board's roots say and leave.
use Rattle.std.proofs.Common.{◌≡◌, ◌∙◌, length, rules}
use Rattle.strips.specs.Said.{if_accepted}
use Rattle.build.specs.Board.{board}
use Rattle.build.specs.Says.{built_said, build_says, build_leaves, filled}
use Rattle.leafnet_text.specs.Held.{given_of}
use Rattle.leafnet_text.specs.Growing.{roots_say, roots_row}
use Rattle.leafnet_text.proofs.Steps.{built-head, built-row}
use Rattle.leafnet_text.proofs.mesh.make_roots.Goals as goal

pub returns : goal.returns
unfolding build_leaves
returns c =
    let g = given_of c.args.board.now in
    let r = c.build.result in
    let long : length c.args.row.now ≡ 512 = search rules in
    let list = c.list.ensures in
    let layers = c.layers.ensures in
    let counts = c.counts.ensures in
    let points = c.points.ensures in
    let components = c.components.ensures in
    let sheets = c.sheets.ensures in
    let settings = c.settings.ensures in
    let says : built_said r ≡ roots_say g =
    c.build.ensures.answer ∙ (λ i. build_says (board (settings i) (list i) (layers i) (counts i) (points i)) (components i) (sheets i) (long i)) in
    let left : c.build.new.table ≡ if_accepted (roots_say g) (roots_row g) c.args.row.now =
    c.build.ensures.slots
    ∙ (λ i. if_accepted (build_says (board (settings i) (list i) (layers i) (counts i) (points i)) (components i) (sheets i) (long i))
    (filled (board (settings i) (list i) (layers i) (counts i) (points i)) (long i)) c.args.row.now) in
    record {
      says = says;
      head = built-head g r says;
      row_after = built-row g r c.args.row.now c.build.new.table says left;
    }
