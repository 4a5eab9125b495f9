-- The entries of nodes, by index.
use Rattle.std.proofs.Common.{◌≡◌, ℕ, ◌<◌, List, length, get_or, zero-add}
use Rattle.std.proofs.lemmas.List.FromFn.{length-map-range_with_len, get_or-map-range_with_len}
use Rattle.net.specs.Net.{MeshNode}
use Rattle.weights.specs.Lines.{entry_of, entries}

pub length-entries : (ns : List MeshNode) → length (entries ns) ≡ length ns
length-entries ns = length-map-range_with_len (entry_of ns) 0 (length ns)

pub entry_at : (ns : List MeshNode) (k : ℕ) (e : List ℕ) → k < length ns → get_or (entries ns) k e ≡ entry_of ns k
entry_at ns k e h = get_or-map-range_with_len (entry_of ns) 0 (length ns) k k e h (zero-add k)
