-- The links so far are counted.
use Rattle.std.proofs.Common.{◌≡◌, min, take}
use Rattle.std.specs.List.{sum_by}
use Rattle.table.specs.Tables.{cells}
use Rattle.links.specs.Count.{contact_count, most}
use Rattle.links.proofs.count.Corners.count_contacts.Given as goal

abbrev pub invariant-loop-contact : goal.invariant-loop-contact
invariant-loop-contact l = l.sum ≡ min (sum_by (contact_count (cells l.self.table)) (take l.contact-index l.contacts)) most
