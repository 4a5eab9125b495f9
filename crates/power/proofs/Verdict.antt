-- What an accepted call found. Assumes nothing.
use lib.Ieee.{Float}
use Rattle.std.proofs.Common.{◌≡◌, Bool, true, false, cond, refl, List, [], length, All, IsTrue, leb}
use Rattle.std.proofs.lemmas.Bool.{and_parts, eqb-true}
use Rattle.std.proofs.lemmas.List.Sums.{AllPass-from_list_all}
use Rattle.refusals.specs.Said.{accepted, refused}
use Rattle.floats.specs.Fractions.{in_sheet, in_potential}
use Rattle.net_rows.specs.declared.rows.Node.{Node}
use Rattle.net_rows.specs.declared.rows.Edge.{Edge}
use Rattle.net_rows.specs.declared.rows.NetCell.{NetCell}
use Rattle.net_rows.specs.Nets.{sound_net}
use Rattle.power.specs.Powers.{in_ranges, power_says}

-- every potential and every sheet resistance is in range, and there is a potential for each node
pub record Ranged (nodes : List Node) (cells : List NetCell) (potentials : List Float) : Type 0 where
  pub count : length potentials ≡ length nodes
  pub potential : All (λ u. IsTrue (in_potential u)) potentials
  pub sheet : All (λ c. IsTrue (in_sheet c.sheet)) cells

pub ranged : (nodes : List Node) (cells : List NetCell) (potentials : List Float) → IsTrue (in_ranges nodes cells potentials) → Ranged nodes cells potentials
unfolding in_ranges
ranged nodes cells potentials t =
    let all = and_parts _ _ t in
    let two = and_parts _ _ all.0 in
    record {
      count = eqb-true _ _ two.0;
      potential = AllPass-from_list_all in_potential potentials two.1;
      sheet = AllPass-from_list_all (λ c. in_sheet c.sheet) cells all.1;
    }

pub record Accepted (nodes : List Node) (edges : List Edge) (cells : List NetCell) (potentials answers : List Float) : Type 0 where
  pub sound : IsTrue (sound_net nodes edges cells)
  pub fit : IsTrue (in_ranges nodes cells potentials)
  pub enough : IsTrue (leb (length cells) (length answers))

pub accepted-is : (nodes : List Node) (edges : List Edge) (cells : List NetCell) (potentials answers : List Float)
    → power_says nodes edges cells potentials answers ≡ accepted [] → Accepted nodes edges cells potentials answers
unfolding power_says
accepted-is nodes edges cells potentials answers = by _ _ _ refl refl refl
  where
    by : (a b c : Bool) → sound_net nodes edges cells ≡ a → in_ranges nodes cells potentials ≡ b → leb (length cells) (length answers) ≡ c
        → cond a (cond b (cond c (accepted []) (refused 6 0)) (refused 3 0)) (refused 7 0) ≡ accepted []
        → Accepted nodes edges cells potentials answers
    by true true true p q r e = record { sound = p; fit = q; enough = r }
    by true true false p q r e = cc
    by true false c p q r e = cc
    by false b c p q r e = cc
