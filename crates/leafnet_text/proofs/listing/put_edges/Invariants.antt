-- The lines of the edges passed.
use Rattle.std.proofs.Common.{◌≡◌, ◌+◌, ◌*◌, ◌≤◌, ◌++◌, take}
use Rattle.arrayvec.specs.ArrayString.{array_string_len}
use Rattle.leafnet_text.specs.Output.{edge_lines}
use Rattle.leafnet_text.proofs.listing.put_edges.Given as goal

abbrev pub invariant-loop-edge : goal.invariant-loop-edge
invariant-loop-edge l = record {
  bytes : l.text.bytes ≡ l.initial.text.bytes ++ edge_lines (take l.edge-index l.edges);
  short : array_string_len l.text ≤ array_string_len l.initial.text + 64 * l.edge-index;
}
