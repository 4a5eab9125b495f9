use Rattle.std.proofs.Common.{◌≡◌, refl}
use lib.Ieee.{le, round, of_bits}
use Rattle.fields.specs.Codec.{many}
use Rattle.record.specs.Board.{polygon, body, board, record_of}
use Rattle.strips.specs.Sorted.{insert, sorted}
use Rattle.cell.specs.Ticks.{in_range, off, on}
use Rattle.floats.specs.Fractions.{in_sheet}
use Rattle.strips.specs.Rings.{edge_at, vertical, slants, reaches, ring_in_range, ring_slants}
use Rattle.strips.specs.Strips.{levels, crossings, pair_up, banded, strips_of}
use Rattle.build.specs.Grid.{held_at, row_to, grid_to, roots_in, all_even}
use Rattle.build.specs.Board.{ring_at, roots_to}
use Rattle.build.specs.Says.{rows_shaped, list_ok, judge_from, even_from, build_says}
use Rattle.laws.specs.Records.{square_record, square_says, level_cases, level_cases_expected}
use Rattle.laws.proofs.records.default_level_cases.Goals as goal

cases : level_cases ≡ level_cases_expected
unfolding level_cases level_cases_expected square_says square_record record_of board body polygon many build_says rows_shaped list_ok judge_from even_from in_range off on in_sheet ring_at roots_to row_to grid_to roots_in all_even insert sorted edge_at vertical slants reaches ring_in_range ring_slants levels crossings pair_up banded strips_of held_at le round of_bits
cases = refl

pub returns : goal.returns
returns c = cases
