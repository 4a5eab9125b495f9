use Rattle.links.proofs.Shares.{links-alike, powers-share, links-share}
use Rattle.links.proofs.laws.links_share.Goals as goal

pub returns-clause-alike : goal.returns-clause-alike
returns-clause-alike c = links-alike

pub returns-clause-powers_of_two : goal.returns-clause-powers_of_two
returns-clause-powers_of_two c = powers-share

pub returns-clause-nearly : goal.returns-clause-nearly
returns-clause-nearly c = links-share
