-- The lines of the nodes passed.
use Rattle.std.proofs.Common.{◌≡◌, ◌+◌, ◌*◌, ◌≤◌, ◌++◌, take}
use Rattle.std.specs.List.{flat_map, enumerate_from}
use Rattle.arrayvec.specs.ArrayString.{array_string_len}
use Rattle.leafnet_text.specs.Lines.{ended, node_line}
use Rattle.leafnet_text.proofs.listing.put_nodes.Given as goal

abbrev pub invariant-loop-number : goal.invariant-loop-number
invariant-loop-number l = record {
  bytes : l.text.bytes ≡ l.initial.text.bytes ++ flat_map (λ n. ended (node_line n.0 n.1)) (take l.number (enumerate_from 0 l.nodes));
  short : array_string_len l.text ≤ array_string_len l.initial.text + 85 * l.number;
}
