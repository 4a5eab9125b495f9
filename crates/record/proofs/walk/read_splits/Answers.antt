use Rattle.std.proofs.Common.{◌∷◌, [], ◌++◌, ℕ, sym}
use Rattle.std.specs.Int.{w32}
use Rattle.fields.specs.Codec.{any}
use Rattle.fields.proofs.Laws.{many_length}
use Rattle.fields.proofs.Loop.{goes_on, stops, is_done}
use Rattle.record.proofs.walk.read_splits.Goals as goal

pub returns-in_default-read_u32 : goal.returns-in_default-read_u32
returns-in_default-read_u32 c =
    let none = c.in_default-read_u32.ensures in
    let l = c.loop in
    rw (c.offset.ensures, none.missing_stays, c.in-Ok.ensures.read, ← c.from-count.ensures)
    (stops (λ (_ : Unit {0}). any w32) (λ (_ : ℕ). tt) tt c.from-count.result _ l.counter l.invariant.0 tt l.reader l.invariant.1 _ c.loop-test.true none.read)

pub loop-preserved : goal.loop-preserved
loop-preserved c =
    let l = c.loop in
    let x = c.in-Some._id in
    (l.invariant.0 ++ x ∷ [], goes_on (λ (_ : Unit {0}). any w32) (λ (_ : ℕ). tt) tt c.from-count.result _ l.counter l.invariant.0 tt l.reader l.invariant.1 x _ c.loop-test.true c.in-Some.ensures.read)

pub returns : goal.returns
returns c =
    let l = c.loop in
    let all = is_done (λ (_ : Unit {0}). any w32) (λ (_ : ℕ). tt) tt c.from-count.result _ l.counter l.invariant.0 tt l.reader l.invariant.1 c.loop-test.false in (
      l.invariant.0,
      rw (c.in-Ok.ensures.read, ← c.from-count.ensures) all,
      sym (many_length (λ (_ : Unit {0}). any w32) (λ (_ : ℕ). tt) tt c.from-count.result _ all),
    )
