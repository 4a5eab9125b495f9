use Rattle.std.proofs.Common.{◌≡◌, ◌*◌, ◌<◌, sym, ap, ap₂, ◌∙◌, length, get_or, set, map, arith, add-one}
use Rattle.net_rows.specs.Nodes.{in_ticks}
use Rattle.refusals.specs.Said.{written}
use Rattle.net.specs.Net.{nth}
use Rattle.net.specs.First.{rank, number_by}
use Rattle.net.proofs.Weld.{rank-new, rank-old}
use Rattle.places.specs.Places.{leaves_in, places_in, corner_count, firsts}
use Rattle.places.proofs.Places.{leaves-length, count_is}
use Rattle.places.proofs.Firsts.{firsts-length}
use Rattle.net_rows.proofs.Written.{written_more}
use Rattle.places.proofs.Numbers.{numbers-length, number_at, next-new, next-old, nodes_to, nodes-length, nodes-new, nodes-old, corners_new}
use Rattle.places.proofs.Leaves.write_nodes.Goals.{then-number-count, else-number-count}
use Rattle.places.proofs.Leaves.write_nodes.Goals as goal

pub loop-i-preserved : goal.loop-i-preserved
loop-i-preserved c =
    let b = c.args.self.now in
    let P = places_in b in
    let fs = firsts P in
    let i = c.loop-i.i in
    let I = c.loop-i.invariant in
    let size = count_is b in
    let long = firsts-length P in
    let numbers = ap length c.requires.numbered ∙ numbers-length P (corner_count b) (omega arith) in
    let h : i < corner_count b = let t = c.loop-i-test.true in omega arith in
    let number : get_or c.args.numbers.now i 0 ≡ number_by fs i = ap (λ l. get_or l i 0) c.requires.numbered ∙ number_at P (corner_count b) i (omega arith) h in
    let k = I.counted in
    let f = I.few in
    let r = c.requires.room in
    elim c.if-number-count.branch [
      | then-number-count w ↦
          let new = next-new fs i (sym number ∙ w.if-number-count.true ∙ k) (omega arith) in
          let n = w.count-is in
          record {
            counted = omega (arith, rank-new fs i new, ap (rank fs) (add-one i));
            few = omega arith;
            nodes = w.nodes-is
                ∙ ap₂ (λ l x. set l c.loop-i.count x) I.nodes (w.in_ticks.ensures ∙ ap in_ticks w.place.ensures)
                ∙ written_more (nodes_to P i) c.args.nodes.now c.loop-i.count (in_ticks (nth P i)) (k ∙ sym (nodes-length P i)) (omega arith)
                ∙ ap (λ l. written l c.args.nodes.now) (sym (ap (nodes_to P) (add-one i) ∙ nodes-new P i new));
          }
      | else-number-count w ↦
          let old = next-old fs i (λ e. w.if-number-count.false (number ∙ e ∙ sym k)) in
          let n = w.count-is in
          record {
            counted = omega (arith, rank-old fs i old, ap (rank fs) (add-one i));
            few = omega arith;
            nodes = w.nodes-is ∙ I.nodes ∙ ap (λ l. written l c.args.nodes.now) (sym (ap (nodes_to P) (add-one i) ∙ nodes-old P i old));
          }
    ]

pub returns : goal.returns
returns c =
    let b = c.args.self.now in
    let P = places_in b in
    let size = count_is b in
    let n = leaves-length b in
    let numbers = ap length c.requires.numbered ∙ numbers-length P (corner_count b) (omega arith) in
    let e : c.loop-i.i ≡ 4 * length (leaves_in b) = let t = c.loop-i-test.false in omega arith in
    c.loop-i.invariant.nodes ∙ ap (λ l. written l c.args.nodes.now) (ap (nodes_to P) e ∙ ap (map in_ticks) (corners_new (leaves_in b)))
