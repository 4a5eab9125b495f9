-- The rules' `cell_power` of one cell. Each operation is rounded once.
use Rattle.std.specs.Prelude.{Float}
use Rattle.floats.specs.Fractions.{◌·◌, ◌÷◌, ◌⊕◌, ◌⊖◌, float}
use Rattle.power.specs.declared.Slope.{Slope}

-- gx = ((u1+u2)-(u0+u3))/(2·dx), gy = ((u2+u3)-(u0+u1))/(2·dy), with u0 to u3 the potentials at SW, SE, NE, NW
abbrev pub slope_of : Float → Float → Float → Float → Float → Float → Slope
slope_of u0 u1 u2 u3 dx dy = record {
  gx = ((u1 ⊕ u2) ⊖ (u0 ⊕ u3)) ÷ (float 2 · dx);
  gy = ((u2 ⊕ u3) ⊖ (u0 ⊕ u1)) ÷ (float 2 · dy);
  dx = dx;
  dy = dy;
}

-- (((gx·gx+gy·gy)·dx)·dy)/r_sheet
abbrev pub power_of : Slope → Float → Float
power_of s sheet = (((s.gx · s.gx ⊕ s.gy · s.gy) · s.dx) · s.dy) ÷ sheet
