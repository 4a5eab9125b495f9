-- The numbers of the entries so far have their firsts, and the last of these goes on as long as the entries are alike.
use Rattle.std.proofs.Common.{ℕ, ◌-◌, ◌<◌, [], get_or, take}
use Rattle.sorted.specs.Firsts.{IsFirst}
use Rattle.sorted.proofs.firsts.write_firsts.Given as goal

abbrev pub invariant-loop-k : goal.invariant-loop-k
invariant-loop-k g l =
    let number = λ (k : ℕ). get_or (get_or l.entries k []) (g.row.N - 1) 0 in
    let key = λ (i : ℕ). take (g.row.N - 1) (g.E.Entries.entry l.from i) in
    record {
      done : (j : ℕ) → j < l.k → IsFirst key (number j) (get_or l.firsts (number j) 0);
      run : 0 < l.k → IsFirst key (number (l.k - 1)) l.first;
    }
