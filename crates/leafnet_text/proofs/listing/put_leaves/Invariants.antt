-- The lines of the leaves passed.
use Rattle.std.proofs.Common.{◌≡◌, ◌+◌, ◌*◌, ◌≤◌, ◌++◌, take}
use Rattle.arrayvec.specs.ArrayString.{array_string_len}
use Rattle.leafnet_text.specs.Output.{leaf_lines}
use Rattle.leafnet_text.proofs.listing.put_leaves.Given as goal

abbrev pub invariant-loop-id : goal.invariant-loop-id
invariant-loop-id l = record {
  bytes : l.text.bytes ≡ l.initial.text.bytes ++ leaf_lines l.row (take l.id-index l.order);
  short : array_string_len l.text ≤ array_string_len l.initial.text + 152 * l.id-index;
}
