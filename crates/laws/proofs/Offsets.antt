-- A balanced table of two roots a quarter of their width apart, of which a node is loose. Assumes nothing.
use Rattle.std.proofs.Common.{◌≡◌, refl, None, Some, ℕ, zero, suc, ◌<◌, arith}
use Rattle.table.specs.Mesh.{at}
use Rattle.table.specs.Formed.{Born, Root, Formed}
use Rattle.table.proofs.Meshes.{not_some}
use Rattle.laws.specs.Grids.{Balanced}
use Rattle.laws.specs.Nodes.{lower}
use Rattle.laws.specs.Offsets.{offset, OffsetsAreBound}

no-kids : (i : ℕ) → (at offset i).kids ≡ None
no-kids zero = refl
no-kids (suc zero) = refl
no-kids (suc (suc i)) = refl

level-zero : (i : ℕ) → (at offset i).level ≡ 0
level-zero zero = refl
level-zero (suc zero) = refl
level-zero (suc (suc i)) = refl

roots : (i : ℕ) → (at offset i).parent ≡ None → Root 1 (at offset i)
roots zero e = record { level = refl; wide = (0, refl); high = (0, refl) }
roots (suc zero) e = record { level = refl; wide = (0, refl); high = (0, refl) }
roots (suc (suc i)) e = not_some (Some 0) 0 e refl

born : (i j : ℕ) → i < 2 → (at offset i).parent ≡ Some j → Born offset i j
born zero j l e = not_some None j refl e
born (suc zero) j l e = not_some None j refl e
born (suc (suc i)) j l e = absurd (omega arith)

formed : Formed 1 offset
formed = record { split = λ i f e. not_some (at offset i).kids f (no-kids i) e; born = born; root = roots }

balanced : Balanced offset
balanced i j hi hj ki kj s = omega (arith, level-zero i, level-zero j)

pub offsets-bound : OffsetsAreBound
offsets-bound =
    record {
      formed = formed;
      balanced = balanced;
      wide = refl;
      quarter = refl;
      loose =
          record {
            below = record { inside = omega arith; whole = refl; polygon = refl };
            above = record { inside = omega arith; whole = refl; polygon = refl };
            corner = record { across = lower refl; upright = lower refl };
            north = refl;
            west = omega arith;
            east = omega arith;
            neither = λ e. grind (arith, e);
          };
    }
