-- The neck and the comb, computed of the definitions: their rings are in pitch, and build accepts them. So their roots fit. Assumes nothing.
use Rattle.std.proofs.Common.{ℕ, ◌<◌, ◌≡◌, refl, true, ap, ◌∙◌, ⊎_elim, [], ◌∷◌, arith}
use lib.Ieee.{of_bits, of_int, round, le}
use Rattle.cell.specs.Ticks.{in_range, off}
use Rattle.strips.specs.Sorted.{insert, sorted}
use Rattle.strips.specs.Rings.{edge_at, vertical, slants, reaches, ring_in_range, ring_slants}
use Rattle.strips.specs.Strips.{levels, crossings, pair_up, banded, strips_of}
use Rattle.cell.proofs.Contact.{and_left, and_right}
use Rattle.table.proofs.All.{range-at}
use Rattle.floats.specs.Fractions.{in_sheet}
use Rattle.build.specs.Grid.{held_at, row_to, grid_to, roots_in, all_even}
use Rattle.build.specs.Board.{Board, polygons, ring_at, roots_to}
use Rattle.build.specs.Says.{rows_shaped, list_ok, judge_from, even_from, build_says}
use Rattle.laws.specs.Fit.{RootsFit}
use Rattle.laws.specs.Built.{BuiltBoard, built, IsInPitch, in_pitch, within_cap}
use Rattle.laws.specs.Samples.{neck, comb, pitched, IsSample, SamplesInPitch, SamplesAccepted, SamplesFit, SamplesAreJoined}
use Rattle.laws.proofs.BuiltGrids.{built-fits}
use Rattle.laws.proofs.BuiltHangs.{built-joins-sides}

pub in-pitch : SamplesInPitch
unfolding neck comb pitched in_pitch within_cap ring_at off insert sorted edge_at vertical reaches levels crossings pair_up banded strips_of
in-pitch = (refl, refl)

pub accepts : SamplesAccepted
unfolding neck comb build_says rows_shaped list_ok judge_from even_from ring_in_range ring_slants slants in_range in_sheet of_bits of_int round le held_at row_to grid_to roots_in all_even roots_to ring_at off insert sorted edge_at vertical reaches levels crossings pair_up banded strips_of
accepts = (refl, refl)

pub ruleset computed = (in-pitch, accepts)

-- ---- any accepted call with one of them

one-polygon : (b : Board) → IsSample b → polygons b ≡ 1
unfolding neck comb
one-polygon b s = ⊎_elim (λ e. rw e refl) (λ e. rw e refl) s

sample-pitched : (b : Board) → IsSample b → pitched b ≡ true
sample-pitched b s = ⊎_elim (λ e. ap pitched e ∙ in-pitch.0) (λ e. ap pitched e ∙ in-pitch.1) s

in-pitch-at : (b : BuiltBoard) (k : ℕ) → pitched b.board ≡ true → k < polygons b.board → IsInPitch b k
unfolding pitched
in-pitch-at b k e h =
    let t = range-at _ 0 (polygons b.board) e k (omega arith) (omega arith) in
    record { there = h; congruent = and_left _ _ t; within = and_right _ _ t }

fits : (b : BuiltBoard) → IsSample b.board → (k : ℕ) → k < 1 → RootsFit (built b) k
fits b s k h =
    let one = one-polygon b.board s in
    let there : k < polygons b.board = omega arith in
    built-fits b k (in-pitch-at b k (sample-pitched b.board s) there)

pub samples-fit : SamplesFit
samples-fit b ps s one =
    record {
      fit = λ k h. fits b s k (omega (arith, one));
      apart = λ k h j i other. absurd (other (omega (arith, one)));
    }

pub samples-joined : SamplesAreJoined
samples-joined b t p s made =
    let f = samples-fit b (p ∷ []) s refl in
    built-joins-sides b t (p ∷ []) 0 p (f.fit 0 (omega arith)) (f.apart 0 (omega arith)) made refl
