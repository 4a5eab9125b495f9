use Rattle.std.proofs.Common.{arith}
use Rattle.leafnet_text.specs.Lines.{ended, node_line}
use Rattle.leafnet_text.proofs.Numbered.{line_more}
use Rattle.leafnet_text.proofs.listing.put_nodes.Goals as goal

pub loop-number-preserved : goal.loop-number-preserved
loop-number-preserved c = record {
  bytes =
      line_more (λ n. ended (node_line n.0 n.1)) c.args.nodes.now _ _ _ _ _ c.loop-number-test.true c.put_node.ensures.bytes
      c.loop-number.invariant.bytes;
  short = omega (arith, c.loop-number.invariant.short, c.put_node.ensures.short);
}
