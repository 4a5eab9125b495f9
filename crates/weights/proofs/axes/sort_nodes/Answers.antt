use Rattle.std.proofs.Common.{◌∙◌, List, ℕ, ◌≡◌, map, length, take, length-take, subst, arith, IsPermutation}
use Rattle.std.specs.List.{range_with_len}
use Rattle.weights.specs.Lines.{entry_of, Lined}
use Rattle.weights.specs.Bare.{faced}
use Rattle.weights.proofs.Facing.{faced-long}
use Rattle.weights.proofs.Neighbours.{numbers}
use Rattle.weights.proofs.axes.sort_nodes.Goals as goal

pub returns : goal.returns
returns c =
    let ns = faced c.args.net.now c.args.axis in
    let into = c.sort_entries.new.into in
    let n = faced-long c.args.net.now c.args.axis in
    let m : length into ≡ length ns = omega (arith, length-take {A = List ℕ}) in
    let all : length (take (length c.args.net.now.nodes.now) c.args.row.now) ≡ length ns = omega (arith, length-take {A = List ℕ}) in
    let L : Lined ns into = record {
      same = subst (λ (k : ℕ). IsPermutation (map (entry_of ns) (range_with_len 0 k)) into) all c.sort_entries.ensures.same;
      sorted = c.sort_entries.ensures.sorted;
    } in
    record { lined = L; an_entry_each = m ∙ n; numbers = λ k d h. (let i = numbers ns into L k d h in omega arith) }
