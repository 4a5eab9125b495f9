-- The test of a net and the facts of a sound net: each from the other. Assumes nothing.
use Rattle.std.proofs.Common.{ℕ, ◌↔◌, List, length, arith, IsTrue}
use Rattle.std.proofs.lemmas.Bool.{and_parts, and_from}
use Rattle.std.proofs.lemmas.Bool.Decides.{nat_tests, Decides-int_eq}
use Rattle.std.proofs.lemmas.List.Sums.{AllPass-from_list_all, list_all-from_AllPass}
use Rattle.net_rows.specs.declared.rows.Node.{Node}
use Rattle.net_rows.specs.declared.rows.Edge.{Edge}
use Rattle.net_rows.specs.declared.rows.Corners.{Corners}
use Rattle.net_rows.specs.declared.rows.NetCell.{NetCell}
use Rattle.net_rows.specs.Nets.{sound_node, sound_edge, known, rectangle, sound_cell, sound_net}
use Rattle.net_rows.specs.Facts.{IsSoundNode, IsSoundEdge, AreKnown, IsRectangle, IsSoundCell, IsSoundNet}

pub node-facts : (n : Node) → IsTrue (sound_node n) → IsSoundNode n
node-facts n t = let p = and_parts _ _ t in record { x = p.0; y = p.1 }

node-sound : (n : Node) → IsSoundNode n → IsTrue (sound_node n)
node-sound n s = and_from _ _ s.x s.y

edge-facts : (count : ℕ) (e : Edge) → IsTrue (sound_edge count e) → IsSoundEdge count e
edge-facts count e t = record { from = grind (arith, nat_tests); to = grind (arith, nat_tests) }

edge-sound : (count : ℕ) (e : Edge) → IsSoundEdge count e → IsTrue (sound_edge count e)
edge-sound count e s = let f = s.from in let t = s.to in grind (arith, nat_tests)

pub known_facts : (count : ℕ) (q : Corners) → IsTrue (known count q) → AreKnown count q
known_facts count q t = record {
  southwest = grind (arith, nat_tests);
  southeast = grind (arith, nat_tests);
  northeast = grind (arith, nat_tests);
  northwest = grind (arith, nat_tests);
}

known-sound : (count : ℕ) (q : Corners) → AreKnown count q → IsTrue (known count q)
known-sound count q k = let a = k.southwest in let b = k.southeast in let c = k.northeast in let d = k.northwest in grind (arith, nat_tests)

rectangle-facts : (nodes : List Node) (q : Corners) → IsTrue (rectangle nodes q) → IsRectangle nodes q
rectangle-facts nodes q t =
    let all = and_parts _ _ t in
    let five = and_parts _ _ all.0 in
    let four = and_parts _ _ five.0 in
    let three = and_parts _ _ four.0 in
    let two = and_parts _ _ three.0 in
    record {
      wide = two.0;
      high = two.1;
      south = (Decides-int_eq _ _).0 three.1;
      east = (Decides-int_eq _ _).0 four.1;
      north = (Decides-int_eq _ _).0 five.1;
      west = (Decides-int_eq _ _).0 all.1;
    }

rectangle-sound : (nodes : List Node) (q : Corners) → IsRectangle nodes q → IsTrue (rectangle nodes q)
rectangle-sound nodes q s =
    let three = and_from _ _ (and_from _ _ s.wide s.high) ((Decides-int_eq _ _).1 s.south) in
    let five = and_from _ _ (and_from _ _ three ((Decides-int_eq _ _).1 s.east)) ((Decides-int_eq _ _).1 s.north) in
    and_from _ _ five ((Decides-int_eq _ _).1 s.west)

cell-facts : (nodes : List Node) (c : NetCell) → IsTrue (sound_cell nodes c) → IsSoundCell nodes c
cell-facts nodes c t =
    let p = and_parts _ _ t in record { known = known_facts (length nodes) c.corners p.0; box = rectangle-facts nodes c.corners p.1 }

cell-sound : (nodes : List Node) (c : NetCell) → IsSoundCell nodes c → IsTrue (sound_cell nodes c)
cell-sound nodes c s = and_from _ _ (known-sound (length nodes) c.corners s.known) (rectangle-sound nodes c.corners s.box)

-- a net that passes the test has the facts, and one that has them passes
module _ (nodes : List Node) (edges : List Edge) (cells : List NetCell) where
  pub sound_facts : IsTrue (sound_net nodes edges cells) → IsSoundNet nodes edges cells
  unfolding sound_net
  sound_facts t =
      let all = and_parts _ _ t in
      let two = and_parts _ _ all.0 in
      record {
        each_node = λ k d h. node-facts _ (AllPass-from_list_all sound_node nodes two.0 k d h);
        each_edge = λ k d h. edge-facts (length nodes) _ (AllPass-from_list_all (sound_edge (length nodes)) edges two.1 k d h);
        each_cell = λ k d h. cell-facts nodes _ (AllPass-from_list_all (sound_cell nodes) cells all.1 k d h);
      }

  pub facts_sound : IsSoundNet nodes edges cells → IsTrue (sound_net nodes edges cells)
  unfolding sound_net
  facts_sound s =
      and_from _ _
      (and_from _ _
      (list_all-from_AllPass sound_node nodes (λ k d h. node-sound _ (s.each_node k d h)))
      (list_all-from_AllPass (sound_edge (length nodes)) edges (λ k d h. edge-sound (length nodes) _ (s.each_edge k d h))))
      (list_all-from_AllPass (sound_cell nodes) cells (λ k d h. cell-sound nodes _ (s.each_cell k d h)))

  pub exactly : IsTrue (sound_net nodes edges cells) ↔ IsSoundNet nodes edges cells
  exactly = (sound_facts, facts_sound)
