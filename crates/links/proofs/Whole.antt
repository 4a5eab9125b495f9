-- The links of a net in their parts. Assumes nothing.
use Rattle.std.proofs.Common.{◌≡◌, ℕ, Bool, true, false, ◌&&◌, ◌==◌, eqb-true, List, [], ◌∷◌, ◌++◌, length, flat_map, refl, sym, ap, ap₂, ◌∙◌, arith, IsTrue, All}
use Rattle.std.specs.List.{list_all}
use Rattle.std.proofs.lemmas.List.{append-nil}
use Rattle.std.proofs.lemmas.List.Sums.{AllPass-from_list_all}
use Rattle.net_rows.specs.declared.rows.Node.{Node}
use Rattle.net.specs.Net.{Edge}
use Rattle.links.specs.declared.rows.Links.{Links}
use Rattle.links.specs.Judged.{via_in_range, channel_in_range, links_in_range}
use Rattle.links.specs.Made.{contact_links, via_links, channel_links, links_of}
use Rattle.links.specs.Nets.{are_none, layer_links}

-- ---- each is in range
left : (b c : Bool) → IsTrue (b && c) → IsTrue b
left true c h = refl
left false c h = absurd (cc h)

right : (b c : Bool) → IsTrue (b && c) → IsTrue c
right true c h = h
right false c h = absurd (cc h)

module _ (l : Links) (h : IsTrue (links_in_range l)) where
  pub vias-range : All (λ v. IsTrue (via_in_range v)) l.vias.now
  unfolding links_in_range
  vias-range = AllPass-from_list_all via_in_range l.vias.now (left _ _ h)

  pub channels-range : All (λ c. IsTrue (channel_in_range c)) l.channels.now
  unfolding links_in_range
  channels-range = AllPass-from_list_all channel_in_range l.channels.now (right (list_all via_in_range l.vias.now) _ h)

-- ---- the parts
module _ (nodes : List Node) (lists : List (List ℕ)) (l : Links) where
  pub links-are : flat_map (contact_links nodes lists) l.contacts.now ++ layer_links nodes l ≡ links_of nodes lists l
  unfolding links_of layer_links
  links-are = refl

  none : {X : Type 0} (f : X → List Edge) (xs : List X) → length xs ≡ 0 → flat_map f xs ≡ []
  none f [] h = refl
  none f (x ∷ xs) h = absurd (omega arith)

  -- where there is no via and no channel
  pub contacts-alone : length l.vias.now ≡ 0 → length l.channels.now ≡ 0 → flat_map (contact_links nodes lists) l.contacts.now ≡ links_of nodes lists l
  unfolding links_of
  contacts-alone v c =
      let front = flat_map (contact_links nodes lists) l.contacts.now in
      sym (ap (λ (z : List Edge). front ++ z)
      (ap₂ {C = List Edge} (λ (a b : List Edge). a ++ b) (none (via_links nodes) l.vias.now v) (none (channel_links nodes l.channel_layer) l.channels.now c))
      ∙ append-nil front)

  pub links-none : true ≡ are_none l → [] ≡ links_of nodes lists l
  links-none e =
      let t = length l.contacts.now == 0 in
      let v = length l.vias.now == 0 in
      let c = length l.channels.now == 0 in
      sym (none (contact_links nodes lists) l.contacts.now (eqb-true _ _ (left t (v && c) (sym e))))
      ∙ contacts-alone (eqb-true _ _ (left v c (right t (v && c) (sym e)))) (eqb-true _ _ (right v c (right t (v && c) (sym e))))
