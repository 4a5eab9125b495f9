-- The ends of a via. Definitions only.
use Rattle.std.specs.Prelude.{ℕ}
use Rattle.links.specs.declared.rows.Via.{Via}
use Rattle.links.specs.declared.entries.End.{End}
use Rattle.links.specs.declared.entries.End.TheVariants.{Bottom, Top}

-- the layer of a via's end
abbrev pub layer_at : Via → End → ℕ
layer_at v Bottom = v.bottom
layer_at v Top = v.top
