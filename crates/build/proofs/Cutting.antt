-- Strips cut into cells: bounds on the numbers. Assumes nothing.
use Rattle.std.proofs.Common.{ℕ, ◌-◌, ◌*◌, ◌/◌, ◌≤◌, arith, mul-le-mul_left, div-mul-le_self}
use Rattle.refusals.specs.Limits.{max_cap}
use Rattle.strips.specs.declared.walk.Strip.{Strip}
use Rattle.build.specs.Grid.{held_at, cut_of}
use Rattle.build.specs.Steps.{Sizes, Cuts}

pub held-some : (cap c w : ℕ) → Sizes cap c → 1 ≤ held_at cap c w
unfolding held_at
held-some cap c w z = omega arith

pub held_fits : (cap c w : ℕ) → Sizes cap c → held_at cap c w ≤ max_cap
unfolding held_at
held_fits cap c w z = omega arith

pub cuts : (cap c : ℕ) (s : Strip) → Sizes cap c → Cuts (cut_of cap c s)
cuts cap c s z =
    record {
      x-some = held-some cap c (s.x1 - s.x0) z;
      x_fits = held_fits cap c (s.x1 - s.x0) z;
      y-some = held-some cap c (s.y1 - s.y0) z;
      y-fits = held_fits cap c (s.y1 - s.y0) z;
    }

-- the part of a length that i of n equal pieces make
pub pieces : (w n i : ℕ) → i ≤ n → w / n * i ≤ w
pieces w n i h = native.Mathlib.Nat.le_trans (mul-le-mul_left (w / n) h) (div-mul-le_self w n)
