-- Which nodes a leaf is held against.
use Rattle.std.specs.Prelude.{ℕ, ◌<◌, length}
use Rattle.checks.specs.declared.asked.Class.{Class}
use Rattle.checks.specs.declared.asked.Class.TheVariants.{Any}
use Rattle.net_rows.specs.declared.rows.Polygons.{Polygons}
use Rattle.checks.specs.declared.asked.Scope.{Scope}
use Rattle.checks.specs.declared.asked.Scope.TheVariants.{Everywhere, ByLayer}
use Rattle.checks.specs.Checks.{own_class}

abbrev pub class_of : Scope → ℕ → Class
class_of Everywhere p = Any
class_of (ByLayer ps) p = own_class ps.layers.now ps.components.now p

-- polygon p has a layer and a component, where they are asked for
pub record HasClass (ps : Polygons) (p : ℕ) : Type 0 where
  pub layer : p < length ps.layers.now
  pub component : p < length ps.components.now

abbrev pub Holds : Scope → ℕ → Type 0
Holds Everywhere p = Unit {0}
Holds (ByLayer ps) p = HasClass ps p
