-- The columns of the polygons passed.
use Rattle.std.proofs.Common.{◌≡◌, take}
use Rattle.leafnet_text.specs.Boards.{column}
use Rattle.leafnet_text.proofs.input.columns_of.Given as goal

abbrev pub invariant-loop-polygon : goal.invariant-loop-polygon
invariant-loop-polygon l =
    let passed = take l.polygon-index l.polygons in
    record {
      layers : l.layers.items ≡ column 0 passed;
      components : l.components.items ≡ column 1 passed;
      counts : l.counts.items ≡ column 2 passed;
    }
