-- What an accepted network call leaves in its rows. Assumes nothing.
use lib.Ieee.{Float, nan, inf, fin, is_nan}
use mathlib.Core.Bool.{false≢true}
use Rattle.std.proofs.Common.{ℕ, ◌≡◌, ◌≤◌, refl, sym, ap, subst, ◌∙◌, List, [], ◌∷◌, map, arith, length-append, nat_le, Option, Some, None, ℤ, length, take, drop, All, IsTrue}
use lib.ListN.{length-map}
use Rattle.std.proofs.Math.Seq.{take-append_seam}
use Rattle.std.specs.Float.{NotNan, float_is_finite}
use Rattle.refusals.specs.Limits.{max_polygons}
use Rattle.refusals.specs.Said.{Said, accepted, refusal}
use Rattle.refusals.specs.declared.Refusal.{Refusal}
use Rattle.refusals.specs.declared.Refusal.TheVariants.{BadTable, NoRoom, OutOfRange}
use Rattle.table.specs.declared.Head.{Head}
use Rattle.net_rows.specs.Nodes.{in_ticks}
use Rattle.refusals.specs.Said.{written}
use Rattle.net_rows.specs.declared.rows.Polygons.{Polygons}
use Rattle.links.specs.declared.rows.Links.{Links}
use Rattle.links.specs.Judged.{links_in_range, links_in, no_links}
use Rattle.links.specs.Made.{linked, linked_network, links_of}
use Rattle.network.specs.Says.{Rows, fits, first_bad, unless_bad, has_room, room_of, net_of, link_count, filled, counted, judged, network_says, network_leaves}
use Rattle.network.proofs.Accepted.{edges-conduct}
use Rattle.network.specs.declared.NetSize.{NetSize}
use Rattle.table.specs.Rows.{leaves_in, order_in}
use Rattle.leafnet_text.specs.Rooms.{net_rows}
use Rattle.leafnet_text.specs.Boards.{Given, polygons_in, polygons_of}
use Rattle.leafnet_text.specs.Output.{lines_text, net_says}
use Rattle.leafnet_text.proofs.Refusing.{accepted-if, refused-first}

-- the values of an accepted call
unspoilt : (bad : Option ℕ) (o : Said) (vs : List ℕ) → accepted vs ≡ unless_bad bad o → accepted vs ≡ o
unspoilt None o vs e = e
unspoilt (Some k) o vs e = cc e

net-accepted : (row : List ℤ) (head : Head) (p : Polygons) (sheets : List Float) (l : Links) (r : Rows) (vs : List ℕ)
    → accepted vs ≡ network_says row head p sheets l r → accepted vs ≡ counted (net_of row head p sheets l) (link_count row head p sheets l)
unfolding network_says judged
net-accepted row head p sheets l r vs e =
    let fit = accepted-if (fits row head p sheets) _ BadTable vs e in
    let few = accepted-if (nat_le (length p.layers.now) max_polygons) _ (OutOfRange 0) vs fit.1 in
    let linked = accepted-if (links_in_range l) _ (OutOfRange 0) vs (unspoilt (first_bad sheets) _ vs few.1) in
    (accepted-if (has_room (room_of r) (length (leaves_in row head)) (link_count row head p sheets l)) _ NoRoom vs linked.1).1

-- a finite number is a number
finite-number : (x : Float) → IsTrue (float_is_finite x) → NotNan x
unfolding float_is_finite is_nan
finite-number nan h = absurd (false≢true h)
finite-number (inf s) h = absurd (false≢true h)
finite-number (fin s m e) h = tt

module _ {A : Type 0} (new old : List A) (n : ℕ) (e : n ≡ length new) where
  take-written : take n (written new old) ≡ new
  take-written = ap (λ k. take k (written new old)) e ∙ take-append_seam new (drop (length new) old)

  within-written : n ≤ length (written new old)
  within-written = omega (arith, e, length-append new (drop (length new) old))

-- what a call over a board's polygons leaves that answered these counts
pub record Left (g : Given) (row : List ℤ) (head : Head) (c : NetSize) (r : Rows) : Type 0 where
  pub few_nodes : c.nodes ≤ length r.nodes
  pub few_edges : c.edges ≤ length r.edges
  pub numbers : All (λ e. NotNan e.conductance) (take c.edges r.edges)
  pub says : (splits : ℕ) → net_says g row head splits ≡ accepted (lines_text row head splits (order_in row head) (take c.nodes r.nodes) (take c.edges r.edges))

module _ (g : Given) (row : List ℤ) (head : Head) (p : Polygons) (sheets : List Float) (layers-are : p.layers.now ≡ g.board.layers)
    (components-are : p.components.now ≡ g.components) (sheets-are : sheets ≡ g.sheets) (l : Links) (contacts-are : l.contacts.now ≡ []) (vias-are : l.vias.now ≡ [])
    (layer-is : l.channel_layer ≡ 0) (channels-are : l.channels.now ≡ []) where
  -- where the rows lie makes no difference
  same-said : network_says row head p sheets l net_rows ≡ network_says row head (polygons_of g) g.sheets no_links net_rows
  unfolding network_says judged links_in_range linked_network linked links_of
  same-said = λ i. network_says row head (polygons_in (layers-are i) (components-are i)) (sheets-are i) (links_in (contacts-are i) (vias-are i) (layer-is i) (channels-are i)) net_rows

  same-left : network_leaves row head p sheets l net_rows ≡ network_leaves row head (polygons_of g) g.sheets no_links net_rows
  unfolding network_says network_leaves judged links_in_range linked_network linked links_of
  same-left = λ i. network_leaves row head (polygons_in (layers-are i) (components-are i)) (sheets-are i) (links_in (contacts-are i) (vias-are i) (layer-is i) (channels-are i)) net_rows

  pub net-refused : (why : Refusal) (splits : ℕ) → refusal why ≡ network_says row head p sheets l net_rows → net_says g row head splits ≡ refusal why
  unfolding net_says
  net-refused why splits e = refused-first why (network_says row head (polygons_of g) g.sheets no_links net_rows) _ (e ∙ same-said)

  pub net-left : (c : NetSize) (r : Rows) → accepted (c.nodes ∷ c.edges ∷ c.cells ∷ c.links ∷ []) ≡ network_says row head p sheets l net_rows
      → r ≡ network_leaves row head p sheets l net_rows → Left g row head c r
  unfolding network_leaves net_says
  net-left c r answer left =
      let w = net_of row head (polygons_of g) g.sheets no_links in
      let vs = c.nodes ∷ c.edges ∷ c.cells ∷ c.links ∷ [] in
      let e = answer ∙ same-said in
      let held : r ≡ filled w net_rows = left ∙ same-left ∙ rw (← e) refl in
      let values = net-accepted row head (polygons_of g) g.sheets no_links net_rows vs e in
      let node_count : c.nodes ≡ length (map in_ticks w.nodes) = cc (values, length-map w.nodes in_ticks) in
      let edge_count : c.edges ≡ length w.edges = cc values in
      let nodes = ap (λ (x : Rows). take c.nodes x.nodes) held ∙ take-written (map in_ticks w.nodes) net_rows.nodes c.nodes node_count in
      let edges = ap (λ (x : Rows). take c.edges x.edges) held ∙ take-written w.edges net_rows.edges c.edges edge_count in
      let all = edges-conduct (record { row = row; head = head; polygons = polygons_of g; sheets = g.sheets; links = no_links; lent = net_rows; counts = vs; accepting = sym e }) in
      record {
        few_nodes = rw held (within-written (map in_ticks w.nodes) net_rows.nodes c.nodes node_count);
        few_edges = rw held (within-written w.edges net_rows.edges c.edges edge_count);
        numbers = subst (All (λ e. NotNan e.conductance)) (sym edges) (λ k d h. finite-number _ (all k d h).finite);
        says = λ splits. rw (← e) (λ i. accepted (lines_text row head splits (order_in row head) (sym nodes i) (sym edges i)));
      }
