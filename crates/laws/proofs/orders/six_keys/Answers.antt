use Rattle.laws.proofs.KeysInOrder.{ascending, same_entries, exchanged-falls, doubled-lacks}
use Rattle.laws.proofs.orders.six_keys.Goals as goal

pub returns-clause-in_order : goal.returns-clause-in_order
returns-clause-in_order c = record { sorted = ascending; same = same_entries }

pub returns-clause-exchanged : goal.returns-clause-exchanged
returns-clause-exchanged c = exchanged-falls

pub returns-clause-doubled : goal.returns-clause-doubled
returns-clause-doubled c = doubled-lacks
