use Rattle.std.proofs.Common.{rules}
use Rattle.std.proofs.lemmas.List.Sorted.{answers_always}
use Rattle.build.proofs.Listing.{rising}
use Rattle.build.proofs.ranges.rising.Goals as goal

pub returns : goal.returns
returns c = c.is_sorted_by.ensures.cases rising (answers_always _ _ _ (λ f a r g h. search rules))
