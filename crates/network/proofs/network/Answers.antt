-- The rows begin with the net before its weights: its mesh, and its links behind the mesh edges.
use Rattle.std.proofs.Common.{◌≡◌, ◌∙◌, sym, ap, ap₂, ℤ, ◌&&◌, Bool, true, false, ◌*◌, ◌+◌, ◌≤◌, ℕ, List, [], ◌∷◌, ◌++◌, length, replicate, nat_le, arith, rules, length-append}
use Rattle.refusals.specs.Said.{accepted, refusal, written}
use Rattle.table.specs.declared.Head.{Head}
use Rattle.table.specs.Rows.{leaves_in}
use Rattle.table.specs.Tables.{leaves}
use Rattle.net.specs.Net.{Edge, bare}
use Rattle.places.specs.Leaves.{polys_of}
use Rattle.bare_net.specs.declared.Counts.{Counts}
use Rattle.links.specs.Made.{links_on, linked_network}
use Rattle.links.specs.Count.{edge_room}
use Rattle.links.proofs.Begins.{a-cell-each}
use Rattle.links.proofs.Behind.{rest, second-room, both}
use Rattle.links.proofs.Rowed.{cells-many, links-same}
use Rattle.network.specs.Says.{rows, netted_said, holds, has_room, room_of, edge_count, link_count, net_of, counted, filled}
use Rattle.network.proofs.Judging as Judging
use Rattle.network.proofs.Bare as Bare
use Rattle.network.proofs.network.Goals as goal

pub returns-in_err-table : goal.returns-in_err-table
returns-in_err-table c =
    let a = c.args in
    let x = c.in_err-table in
    let lent = rows a.nodes.now a.edges.now a.cells.now a.work.now in
    let same : netted_said c.from_residual.result ≡ refusal x.field-0.0 = search rules in
    let e = Judging.says-refused a.row.now a.head a.polygons.now a.sheets.now a.links.now lent x.field-0.0 x.ensures.answer in
    record { answer = same ∙ e; rows = Judging.left-alone a.row.now a.head a.polygons.now a.sheets.now a.links.now lent x.field-0.0 e }

pub returns-then-not-holds : goal.returns-then-not-holds
returns-then-not-holds c =
    let a = c.args in
    let x = c.in_ok-table in
    let lent = rows a.nodes.now a.edges.now a.cells.now a.work.now in
    let made = link_count a.row.now a.head a.polygons.now a.sheets.now a.links.now in
    let short : holds (room_of lent) (length (leaves x.table)) ≡ false = search rules in
    let leaves-are = ap length (ap₂ leaves_in x.ensures.row x.ensures.head) in
    let full : has_room (room_of lent) (length (leaves_in a.row.now a.head)) made ≡ false =
    rw (← leaves-are) (ap (λ (b : Bool). b && nat_le (edge_count (length (leaves x.table)) made) (length a.edges.now)) short) in
    let e = Judging.says-full a.row.now a.head a.polygons.now a.sheets.now a.links.now lent x.ensures.answer full in
    record { answer = e; rows = Judging.left-full a.row.now a.head a.polygons.now a.sheets.now a.links.now lent e }

pub returns-then-not-edges_fit : goal.returns-then-not-edges_fit
unfolding edge_room
returns-then-not-edges_fit c =
    let a = c.args in
    let x = c.in_ok-table in
    let lent = rows a.nodes.now a.edges.now a.cells.now a.work.now in
    let count = λ (row : List ℤ) (head : Head). edge_count (length (leaves_in row head)) (link_count row head a.polygons.now a.sheets.now a.links.now) in
    let short : c.edges_fit.result ≡ false = search rules in
    let fit : nat_le (count a.row.now a.head) (length a.edges.now) ≡ false =
    ap (λ (n : ℕ). nat_le n (length a.edges.now)) (sym (ap₂ count x.ensures.row x.ensures.head)) ∙ sym (c.edges_fit.ensures a.sheets.now) ∙ short in
    let full : has_room (room_of lent) (length (leaves_in a.row.now a.head)) (link_count a.row.now a.head a.polygons.now a.sheets.now a.links.now) ≡ false =
    ap (λ (b : Bool). holds (room_of lent) (length (leaves_in a.row.now a.head)) && b) fit ∙ Judging.and-no (holds (room_of lent) (length (leaves_in a.row.now a.head))) in
    let e = Judging.says-full a.row.now a.head a.polygons.now a.sheets.now a.links.now lent x.ensures.answer full in
    record { answer = e; rows = Judging.left-full a.row.now a.head a.polygons.now a.sheets.now a.links.now lent e }

-- the edges fit: 8 a leaf, and one for each link
pub write_net-mesh-requires-clause-edge_room : goal.write_net-mesh-requires-clause-edge_room
unfolding edge_room
write_net-mesh-requires-clause-edge_room c =
    let a = c.args in
    let fit : nat_le (edge_room c.in_ok-table.table a.polygons.now a.sheets.now a.links.now) (length a.edges.now) ≡ true = sym (c.edges_fit.ensures a.sheets.now) ∙ search rules in
    omega (arith, Judging.fits-le _ _ fit)

pub invariant_of-held : goal.invariant_of-held
invariant_of-held c =
    let a = c.args in
    let t = c.in_ok-table.table in
    let w = c.write_net-mesh in
    let e = w.ensures in
    let ps = polys_of a.polygons.now a.sheets.now in
    let b = Bare.begins t.row.now t.head t.formed ps a.links.now {old = rows a.nodes.now a.edges.now a.cells.now a.work.now} {new = rows w.new.nodes w.new.edges w.new.cells w.new.work}
    e.nodes e.cells (ap (λ (k : Counts). k.nodes) e.counts) (ap (λ (k : Counts). k.cells) e.counts) in
    record { sound = Bare.sound t.row.now t.head t.formed ps a.links.now b; known = Bare.corners_known t.row.now t.head t.formed ps a.links.now b }

pub write-linked-requires : goal.write-linked-requires
unfolding edge_room
write-linked-requires c =
    let a = c.args in
    let x = c.in_ok-table in
    let t = x.table in
    let w = c.write_net-mesh in
    let e = w.ensures in
    let l = a.links.now in
    let ps = polys_of a.polygons.now a.sheets.now in
    let b = Bare.begins t.row.now t.head t.formed ps l {old = rows a.nodes.now a.edges.now a.cells.now a.work.now} {new = rows w.new.nodes w.new.edges w.new.cells w.new.work}
    e.nodes e.cells (ap (λ (k : Counts). k.nodes) e.counts) (ap (λ (k : Counts). k.cells) e.counts) in
    let mesh = (bare (Bare.qs t.row.now t.head t.formed ps l)).edges in
    let made = links_on (Bare.qs t.row.now t.head t.formed ps l) l in
    let same = Bare.here t.row.now t.head t.formed ps l b (links-same t.row.now t.head a.polygons.now a.sheets.now x.ensures.known x.ensures.few_polygons l) in
    let fit : nat_le (edge_room t a.polygons.now a.sheets.now l) (length a.edges.now) ≡ true = sym (c.edges_fit.ensures a.sheets.now) ∙ search rules in
    let few = Bare.edges-few t.row.now t.head t.formed ps l in
    let fits : length (mesh ++ made) ≤ length a.edges.now = omega (arith, few, Judging.fits-le _ _ fit, length-append mesh made) in
    let many = ap (λ (k : Counts). k.edges) e.counts in
    let q : 64 * length (leaves t) ≤ length a.work.now = search rules in
    let behind = second-room mesh made a.edges.now fits w.new.edges w.result.edges e.edges many in
    record {
      in_range = x.ensures.links_in_range;
      a_cell_each = Bare.a_cell_each t.row.now t.head t.formed ps l b (cells-many t.row.now t.head a.polygons.now a.sheets.now x.ensures.known x.ensures.few_polygons ∙ a-cell-each t);
      work_room = omega (arith, Bare.nodes-room t.row.now t.head t.formed ps l b, q, w.auto.work);
      room = omega (arith, ap length same, behind);
    }

pub invariant_of-net : goal.invariant_of-net
invariant_of-net c =
    let a = c.args in
    let x = c.in_ok-table in
    let t = x.table in
    let w = c.write_net-mesh in
    let e = w.ensures in
    let l = a.links.now in
    let ps = polys_of a.polygons.now a.sheets.now in
    let b = Bare.begins t.row.now t.head t.formed ps l {old = rows a.nodes.now a.edges.now a.cells.now a.work.now} {new = rows w.new.nodes w.new.edges w.new.cells w.new.work}
    e.nodes e.cells (ap (λ (k : Counts). k.nodes) e.counts) (ap (λ (k : Counts). k.cells) e.counts) in
    record {
      few_cells = Bare.few_cells t.row.now t.head t.formed ps l b;
      few_nodes = Bare.few_nodes t.row.now t.head t.formed ps l b;
      corners_known = Bare.corners_known t.row.now t.head t.formed ps l b;
    }

pub apply_weights-requires : goal.apply_weights-requires
unfolding edge_room
apply_weights-requires c =
    let a = c.args in
    let x = c.in_ok-table in
    let t = x.table in
    let w = c.write_net-mesh in
    let e = w.ensures in
    let l = a.links.now in
    let ps = polys_of a.polygons.now a.sheets.now in
    let b = Bare.begins t.row.now t.head t.formed ps l {old = rows a.nodes.now a.edges.now a.cells.now a.work.now} {new = rows w.new.nodes w.new.edges w.new.cells w.new.work}
    e.nodes e.cells (ap (λ (k : Counts). k.nodes) e.counts) (ap (λ (k : Counts). k.cells) e.counts) in
    let mesh = (bare (Bare.qs t.row.now t.head t.formed ps l)).edges in
    let made = links_on (Bare.qs t.row.now t.head t.formed ps l) l in
    let same = Bare.here t.row.now t.head t.formed ps l b (links-same t.row.now t.head a.polygons.now a.sheets.now x.ensures.known x.ensures.few_polygons l) in
    let fit : nat_le (edge_room t a.polygons.now a.sheets.now l) (length a.edges.now) ≡ true = sym (c.edges_fit.ensures a.sheets.now) ∙ search rules in
    let few = Bare.edges-few t.row.now t.head t.formed ps l in
    let fits : length (mesh ++ made) ≤ length a.edges.now = omega (arith, few, Judging.fits-le _ _ fit, length-append mesh made) in
    let many = ap (λ (k : Counts). k.edges) e.counts in
    let q : 64 * length (leaves t) ≤ length a.work.now = search rules in
    let v = c.write-linked in
    let whole = both mesh made a.edges.now fits w.new.edges w.result.edges e.edges many v.new.edges v.result
    (v.ensures.row ∙ ap (λ (z : List Edge). written z (rest w.result.edges w.new.edges)) same) (v.ensures.count ∙ ap length same) in
    let all = Bare.edges-are t.row.now t.head t.formed ps l in
    let are = whole.1 ∙ ap (λ (z : List Edge). written z a.edges.now) (sym all) in
    let count = whole.0 ∙ ap length (sym all) in
    record {
      work_room = omega (arith, Bare.cells-room t.row.now t.head t.formed ps l b, q, w.auto.work, v.auto.work);
      ends_known = Bare.ends_known t.row.now t.head t.formed ps l b are count;
    }

pub returns : goal.returns
unfolding edge_room linked_network
returns c =
    let a = c.args in
    let x = c.in_ok-table in
    let t = x.table in
    let w = c.write_net-mesh in
    let e = w.ensures in
    let l = a.links.now in
    let ps = polys_of a.polygons.now a.sheets.now in
    let b = Bare.begins t.row.now t.head t.formed ps l {old = rows a.nodes.now a.edges.now a.cells.now a.work.now} {new = rows w.new.nodes w.new.edges w.new.cells w.new.work}
    e.nodes e.cells (ap (λ (k : Counts). k.nodes) e.counts) (ap (λ (k : Counts). k.cells) e.counts) in
    let mesh = (bare (Bare.qs t.row.now t.head t.formed ps l)).edges in
    let made = links_on (Bare.qs t.row.now t.head t.formed ps l) l in
    let same = Bare.here t.row.now t.head t.formed ps l b (links-same t.row.now t.head a.polygons.now a.sheets.now x.ensures.known x.ensures.few_polygons l) in
    let fit : nat_le (edge_room t a.polygons.now a.sheets.now l) (length a.edges.now) ≡ true = sym (c.edges_fit.ensures a.sheets.now) ∙ search rules in
    let few = Bare.edges-few t.row.now t.head t.formed ps l in
    let fits : length (mesh ++ made) ≤ length a.edges.now = omega (arith, few, Judging.fits-le _ _ fit, length-append mesh made) in
    let many = ap (λ (k : Counts). k.edges) e.counts in
    let q : 64 * length (leaves t) ≤ length a.work.now = search rules in
    let v = c.write-linked in
    let whole = both mesh made a.edges.now fits w.new.edges w.result.edges e.edges many v.new.edges v.result
    (v.ensures.row ∙ ap (λ (z : List Edge). written z (rest w.result.edges w.new.edges)) same) (v.ensures.count ∙ ap length same) in
    let all = Bare.edges-are t.row.now t.head t.formed ps l in
    let are = whole.1 ∙ ap (λ (z : List Edge). written z a.edges.now) (sym all) in
    let count = whole.0 ∙ ap length (sym all) in
    let lent = rows a.nodes.now a.edges.now a.cells.now a.work.now in
    let net = Bare.net t.row.now t.head t.formed ps l in
    let enough : holds (room_of lent) (length (leaves t)) ≡ true = search rules in
    let roomy : has_room (room_of lent) (length (leaves t)) (length made) ≡ true = ap₂ (λ (p r : Bool). p && r) enough fit in
    let room = λ (row : List ℤ) (head : Head). has_room (room_of lent) (length (leaves_in row head)) (link_count row head a.polygons.now a.sheets.now l) in
    let says = λ (row : List ℤ) (head : Head). counted (net_of row head a.polygons.now a.sheets.now l) (link_count row head a.polygons.now a.sheets.now l) in
    let fills = λ (row : List ℤ) (head : Head). filled (net_of row head a.polygons.now a.sheets.now l) lent in
    let here = Judging.says-whole a.row.now a.head a.polygons.now a.sheets.now l lent x.ensures.answer (sym (ap₂ room x.ensures.row x.ensures.head) ∙ roomy) in
    let linked-count = v.ensures.count ∙ ap length same in
    let sized : accepted (w.result.nodes ∷ (w.result.edges + v.result) ∷ w.result.cells ∷ v.result ∷ []) ≡ accepted (length net.nodes ∷ length net.edges ∷ length net.cells ∷ length made ∷ []) =
    λ i. accepted (b.node-count i ∷ count i ∷ b.cell-count i ∷ linked-count i ∷ []) in
    let z = c.apply_weights.ensures in
    record {
      answer = sized ∙ Bare.size-said t.row.now t.head t.formed ps l ∙ ap₂ says x.ensures.row x.ensures.head ∙ here;
      rows =
          Bare.whole t.row.now t.head t.formed ps l b are count z.edges (z.work_cleared ∙ ap (λ n. replicate n 0) (v.auto.work ∙ w.auto.work))
          ∙ ap₂ fills x.ensures.row x.ensures.head
          ∙ Judging.left-filled a.row.now a.head a.polygons.now a.sheets.now l lent here;
    }
