-- A digit less at each call.
use Rattle.leafnet_text.proofs.lines.+put_hex.Given as goal

abbrev pub decreases-put_hex : goal.decreases-put_hex
decreases-put_hex l = l.digits
