-- Of what build leaves of roots that fit, refined and balanced, no node hangs, and the sides are joined. Assumes nothing.
use Rattle.table.specs.Formed.{Formed}
use Rattle.build.proofs.Wellformed.{built-formed}
use Rattle.laws.specs.Built.{BuiltBoard, built, BuiltHangsNot, BuiltJoinsSides}
use Rattle.laws.proofs.Evens.{splits-formed, splits-fit, splits-apart}
use Rattle.laws.proofs.Tables.{balance-none}
use Rattle.laws.proofs.Joined.{balance-joins}

-- what build leaves is well formed
pub left-formed : (b : BuiltBoard) → Formed b.board.settings.max_level (built b)
left-formed b = (built-formed b.board b.components b.sheets b.lent b.count b.accepting).cells

-- ---- the laws that src/built.rt promises

pub built-none-hangs : BuiltHangsNot
built-none-hangs b t ps k p fit made h =
    let M = b.board.settings.max_level in
    balance-none M t ps k p (splits-formed M (built b) (left-formed b) made) h (splits-fit M (built b) k fit made)

pub built-joins-sides : BuiltJoinsSides
built-joins-sides b t ps k p fit apart made h =
    let M = b.board.settings.max_level in
    balance-joins M t ps k p (splits-formed M (built b) (left-formed b) made) h (splits-fit M (built b) k fit made) (splits-apart M (built b) ps k apart made)
