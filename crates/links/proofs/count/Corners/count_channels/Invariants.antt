-- The links so far are counted.
use Rattle.std.proofs.Common.{◌≡◌, min, take}
use Rattle.std.specs.List.{sum_by}
use Rattle.table.specs.Tables.{cells}
use Rattle.links.specs.Count.{channel_count, most}
use Rattle.links.proofs.count.Corners.count_channels.Given as goal

abbrev pub invariant-loop-channel : goal.invariant-loop-channel
invariant-loop-channel l = l.sum ≡ min (sum_by (channel_count (cells l.self.table) l.self.polygons l.layer) (take l.channel-index l.channels)) most
