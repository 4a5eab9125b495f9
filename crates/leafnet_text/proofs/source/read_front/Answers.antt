use Rattle.std.proofs.Common.{◌-◌, length, drop, arith, length-take-le, length-drop}
use borrow.Rule.Slice.PartMut.{same_len_mid}
use Rattle.leafnet_text.proofs.Fronts.{read-more}
use Rattle.leafnet_text.proofs.source.read_front.Goals as goal

pub loop-filled-preserved : goal.loop-filled-preserved
loop-filled-preserved g c =
    let s = c.loop-filled in
    let within = c.in_ok-count.ensures.within in
    let long = same_len_mid s.filled (length s.room - s.filled) s.room c.read_retrying.new.room c.read_retrying.auto.room in
    let part = length-take-le (length s.room - s.filled) (drop s.filled s.room) (omega (arith, length-drop s.filled s.room)) in
    record {
      within = omega (arith, within, long, part, c.read_retrying.auto.room, length-drop s.filled s.room);
      bytes = read-more _ _ _ s.room c.read_retrying.new.room _ s.filled c.in_ok-count.count s.invariant.within within s.invariant.bytes
          c.in_ok-count.ensures.bytes;
    }
