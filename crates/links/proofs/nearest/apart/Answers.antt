-- The distance is below 2^53, so it is the same number signed, and exact as a fraction.
use Rattle.std.proofs.Common.{ℕ, ◌<◌, ◌^◌, ◌≡◌, arith, pos, w64, to_z, to_z-of_z, ap, le→leb}
use lib.Ieee.{in_float, of_int, binary64}
use mir.ValLaws.{to_z_pos}
use Rattle.links.proofs.Leads.{near}
use Rattle.links.proofs.nearest.apart.Goals as goal

signed : (n : ℕ) → n < 2 ^ 53 → to_z w64 n ≡ pos n
signed n h = to_z_pos w64 n (omega arith)

pub overflow_cast-result : goal.overflow_cast-result
overflow_cast-result c =
    let e = rw (to_z-of_z c.ranges.a, to_z-of_z c.ranges.b) at c.abs_diff.ensures in
    let h = near c.args.a c.args.b c.requires.a_in_range c.requires.b_in_range in
    record { sfits = omega arith }

pub int_to_float-result : goal.int_to_float-result
unfolding in_float
int_to_float-result c =
    let e = rw (to_z-of_z c.ranges.a, to_z-of_z c.ranges.b) at c.abs_diff.ensures in
    let h = near c.args.a c.args.b c.requires.a_in_range c.requires.b_in_range in
    rw (signed c.abs_diff.result (omega arith)) (le→leb c.abs_diff.result (2 ^ 53) (omega arith))

pub returns : goal.returns
returns c =
    let e = rw (to_z-of_z c.ranges.a, to_z-of_z c.ranges.b) at c.abs_diff.ensures in
    let h = near c.args.a c.args.b c.requires.a_in_range c.requires.b_in_range in
    rw (signed c.abs_diff.result (omega arith)) (ap (λ n. of_int binary64 (pos n)) e)
