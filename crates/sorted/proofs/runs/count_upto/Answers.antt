use Rattle.std.proofs.Common.{rules}
use Rattle.std.proofs.lemmas.List.Sorted.{IsPartitionPoint-from_clause}
use Rattle.sorted.proofs.Beginning.{upto, upto-parted}
use Rattle.sorted.proofs.runs.count_upto.Goals as goal

pub returns-clause-parted : goal.returns-clause-parted
returns-clause-parted g c =
    let row = c.args.row.now in
    let key = c.args.key.now in
    IsPartitionPoint-from_clause (upto row c.requires.sorted key) row _ c.partition_point.ensures.partitioned (upto-parted row c.requires.sorted key) (λ a r f' k. search rules)
