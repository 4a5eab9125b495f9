use Rattle.std.proofs.Common.{nat_eq, rules}
use Rattle.std.specs.List.{starts_with}
use Rattle.std.proofs.lemmas.List.Sorted.{IsPartitionPoint-from_clause}
use Rattle.sorted.proofs.runs.count_beginning.Goals as goal

pub returns-clause-parted : goal.returns-clause-parted
returns-clause-parted g c =
    IsPartitionPoint-from_clause (λ e. starts_with nat_eq e c.args.key.now) c.args.row.now _ c.partition_point.ensures.partitioned c.requires (λ a r f' k. search rules)
