use Rattle.std.proofs.Common.{◌&&◌, ap, leb, length}
use Rattle.refusals.specs.Limits.{max_layers}
use Rattle.build.specs.Says.{list_ok}
use Rattle.build.proofs.Listing.{list-judged}
use Rattle.build.proofs.ranges.list_ok.Goals as goal

pub returns : goal.returns
unfolding list_ok
returns c =
    let l = c.args.list.now in
    ap (λ b. leb (length l) max_layers && b) (list-judged l _ _ c.in_range.ensures c.rising.ensures)
