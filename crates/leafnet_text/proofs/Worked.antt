-- The rules' lines for the worked board, a refusal, and numbers at the ends of their ranges: computed. Assumes nothing.
use lib.Ieee.{to_bits}
use Rattle.std.proofs.Common.{refl}
use Rattle.std.specs.Fmt.{digits}
use Rattle.leafnet_text.specs.Worked.{WorkedBoardIsPrinted, RefusalIsPrinted, RangesArePrinted}

pub worked : WorkedBoardIsPrinted
unfolding to_bits digits
worked = refl

pub worked-refusal : RefusalIsPrinted
unfolding digits
worked-refusal = refl

pub worked-ranges : RangesArePrinted
unfolding to_bits digits
worked-ranges = refl
