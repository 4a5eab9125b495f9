-- Room: what the passes end in fits the slots where what the coarsest splitting needs does. Assumes nothing.
use Rattle.std.proofs.Common.{List, ℕ, ◌<◌, arith, length}
use Rattle.table.specs.Mesh.{Cell}
use Rattle.table.specs.Formed.{Formed}
use Rattle.coarsest.specs.declared.Engine.{Engine}
use Rattle.coarsest.specs.Passes.{evened}
use Rattle.coarsest.specs.Names.{Needs}
use Rattle.coarsest.proofs.Ends.{needs-one}

module _ (e : Engine) (k : ℕ) (t : List Cell) (M : ℕ) (formed : Formed M t) where
  -- what the coarsest splitting needs is more than the slots if what the passes end in has more cells, and only then
  pub over-needs : (slots n : ℕ) → Needs k M t n → slots < length (evened e k M t) → slots < n
  over-needs slots n w h = let s = needs-one e k M t formed n w in omega arith

  pub needs-over : (slots n : ℕ) → Needs k M t n → slots < n → slots < length (evened e k M t)
  needs-over slots n w h = let s = needs-one e k M t formed n w in omega arith
