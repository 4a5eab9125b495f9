use Rattle.std.proofs.Common.{◌+◌, ◌*◌, ◌-◌, ◌≡◌, [], sym, ◌∙◌, inl, inr, arith, length}
use Rattle.std.specs.Slice.Iter.{iter_rest}
use Rattle.std.specs.Iterator.Adapters.{zip_first, zip_second}
use Rattle.record.specs.Writing.{count_of}
use Rattle.record.proofs.Turns.{none, count_fits, none_left, none_to_put, polygon-turn}
use Rattle.record.proofs.put.put_polygons.Goals as goal

pub split_at-requires : goal.split_at-requires
split_at-requires c =
    let e = c.in-Some.ensures.steps in
    (count_fits c.in-Some.head.now (iter_rest (zip_first c.next.new.self)) (length c.loop-head.left.now) (rw e.0 at c.loop-head.invariant.counted)).0

pub loop-head-preserved : goal.loop-head-preserved
loop-head-preserved c =
    let l = c.loop-head in
    let e = c.in-Some.ensures.steps in
    let p = c.in-Some.head.now in
    let heads = iter_rest (zip_first c.next.new.self) in
    let sheets = iter_rest (zip_second c.next.new.self) in
    let f = count_fits p heads (length l.left.now) (rw e.0 at l.invariant.counted) in
    let s = c.split_at.ensures in
    let left : length c.split_at.result.1.now ≡ length l.left.now - count_of p = omega (arith, s.back_len) in
    let head = rw c.sheet_bits.ensures at c.put_head.ensures.stored in
    let ring = rw (s.front, c.put_head.ensures.next) at c.put_ring.ensures.stored in
    let here : c.put_ring.new.writer.at ≡ l.writer.at + (16 + 16 * count_of p) = omega (arith, s.front_len, c.put_head.ensures.next, c.put_ring.ensures.next) in
    let turn = polygon-turn p c.in-Some.sheet.now l.left.now f.0 heads sheets l.writer.at l.writer.bytes.now c.put_head.new.writer.bytes.now c.put_ring.new.writer.bytes.now head ring in
    record {
      same_len = omega (arith, rw (e.0, e.1) at l.invariant.same_len);
      counted = rw left f.1;
      next = omega (arith, here, f.0, left, rw e.0 at l.invariant.next);
      stored = rw (here, s.back) (turn ∙ rw (e.0, e.1) at l.invariant.stored);
      row_length = c.put_ring.ensures.row_length ∙ c.put_head.ensures.row_length ∙ l.invariant.row_length;
      same_reference = c.put_ring.ensures.same_reference ∙ c.put_head.ensures.same_reference ∙ l.invariant.same_reference;
    }

pub returns : goal.returns
returns c =
    let l = c.loop-head in
    let ended : iter_rest (zip_first l.head-iterator) ≡ [] =
    elim c.in-None.ensures.steps [
      | inl a ↦ none (iter_rest (zip_first l.head-iterator)) a.1.0
      | inr b ↦ none (iter_rest (zip_first l.head-iterator)) (l.invariant.same_len ∙ b.1.0)
    ] in
    let left = none_left _ _ ended l.invariant.counted in
    record {
      next = omega (arith, left, rw ended at l.invariant.next);
      stored = sym (none_to_put l.writer.bytes.now l.writer.at _ _ l.left.now ended) ∙ l.invariant.stored;
      row_length = l.invariant.row_length;
      same_reference = l.invariant.same_reference;
    }
