-- Laws of the nodes along a side, by the place that the walk has come to. Assumes nothing.
use Rattle.std.proofs.Common.{ℕ, suc, ◌<◌, ◌≡◌, refl, sym, ap, subst, ◌∙◌, Bool, true, false, if◌then◌else◌, Option, None, Some, List, [], ◌∷◌, slice_index_or, arith}
use Rattle.std.specs.Prelude.{⊤}
use Rattle.std.specs.List.{cons_option}
use Rattle.std.specs.Option.{is_some, option_map}
use Rattle.std.proofs.lemmas.Bool.{true≢false}
use Rattle.net_rows.specs.declared.rows.Node.{Node}
use Rattle.net_rows.specs.declared.rows.Edge.{Edge}
use Rattle.checks.specs.declared.asked.Place.{Place}
use Rattle.checks.specs.declared.asked.Class.{Class}
use Rattle.checks.specs.declared.asked.Side.{Side}
use Rattle.checks.specs.declared.asked.Hanging.{Hanging}
use Rattle.checks.specs.Nodes.{node_at, next_place, nodes_between, joined}
use Rattle.checks.specs.Sides.{Near, OnLine, NearSide, ticks_between}
use Rattle.checks.specs.Checks.{first_unjoined, chain, chain_fault}
use Rattle.checks.proofs.Between.{next-of, between-none}

-- the fault of a side whose ends are nodes a and b, of what is found between
abbrev pub hanging : ℕ → ℕ → Option ℕ → Option Hanging
hanging a b = option_map (λ n. record { node = n; start = a; end = b })

module _ (nodes : List Node) (edges : List Edge) (class : Class) (side : Side) where
  -- the nodes from such a place on
  abbrev nodes_from : Option Place → List ℕ
  nodes_from None = []
  nodes_from (Some p) = cons_option (node_at nodes class p) (nodes_between nodes class p side.end)

  -- of node n, which is joined to the point before it, and the nodes after it, the first that is loose
  abbrev loose : ℕ → ℕ → List ℕ → Option ℕ
  loose b n rest = if joined edges n (slice_index_or rest 0 b) then first_unjoined edges n rest b else Some n

  -- the same, where node n is what the walk has come to
  abbrev pub left : ℕ → ℕ → Option Place → Option ℕ
  left b n None = None
  left b n (Some p) = loose b n (nodes_between nodes class p side.end)

  -- a place of the walk
  pub record IsAt (p : Place) : Type 0 where
    pub line : OnLine side.axis p side.end
    pub near : Near p
    pub stands : is_some (node_at nodes class p) ≡ true

  pub has-node : (p : Place) → IsAt p → None ≡ node_at nodes class p → ⊥
  has-node p t e = true≢false (sym t.stands ∙ ap is_some (sym e))

  abbrev pub MayBeAt : Option Place → Type 0
  MayBeAt None = ⊤
  MayBeAt (Some p) = IsAt p

  -- how far it is to the end
  abbrev pub way : Option Place → ℕ
  way None = 0
  way (Some p) = suc (ticks_between p side.end)

  -- what is left decides
  pub record IsLeft (a b n : ℕ) (here : Option Place) : Type 0 where
    pub at : MayBeAt here
    pub answer : chain_fault nodes edges class side ≡ hanging a b (left b n here)

  -- the walk goes on to the next place
  next-at : NearSide side → (p : Place) → OnLine side.axis p side.end → Near p → (o : Option Place) → o ≡ next_place nodes class p side.end
      → MayBeAt o × ((way o < way (Some p)) × (nodes_between nodes class p side.end ≡ nodes_from o))
  next-at s p l n None e = (tt, (omega arith, between-none nodes class p side.end (sym e)))
  next-at s p l n (Some q) e =
      let r = next-of nodes class side.axis p side.end q l (sym e) in
      let nearer = r.nearer in
      (record { line = r.line; near = r.near n s.end; stands = r.stands }, (omega arith, r.chain))

  -- the first place between the ends
  module _ (near : NearSide side) (first : Place) (is : next_place nodes class side.start side.end ≡ Some first) where
    begins : MayBeAt (Some first) × ((way (Some first) < way (Some side.start)) × (nodes_between nodes class side.start side.end ≡ nodes_from (Some first)))
    begins = next-at near side.start near.line near.start (Some first) (sym is)

    pub at-first : IsAt first
    at-first = begins.0

    module _ (a b n : ℕ) (e : Some a ≡ node_at nodes class side.start) (f : Some b ≡ node_at nodes class side.end) (g : Some n ≡ node_at nodes class first)
        (t : Bool) (j : t ≡ joined edges a n) where
      whole : chain_fault nodes edges class side ≡ hanging a b (first_unjoined edges a (n ∷ nodes_between nodes class first side.end) b)
      unfolding chain_fault chain
      whole = rw (← e, ← f, begins.1.1, ← g) refl

      pub begun : t ≡ true → IsLeft a b n (Some first)
      unfolding first_unjoined
      begun h = record { at = at-first; answer = whole ∙ rw (sym j ∙ h) refl }

      pub not-begun : t ≡ false → chain_fault nodes edges class side ≡ Some (record { node = n; start = a; end = b })
      unfolding first_unjoined
      not-begun h = whole ∙ rw (sym j ∙ h) refl

  -- a side without a node at an end
  pub no-start : None ≡ node_at nodes class side.start → chain_fault nodes edges class side ≡ None
  unfolding chain_fault chain
  no-start e = rw (← e) refl

  pub no-end : (a : ℕ) → Some a ≡ node_at nodes class side.start → None ≡ node_at nodes class side.end → chain_fault nodes edges class side ≡ None
  unfolding chain_fault chain
  no-end a e f = rw (← e, ← f) refl

  -- with no node between there is none that is loose
  pub none_between : next_place nodes class side.start side.end ≡ None → chain_fault nodes edges class side ≡ None
  unfolding chain_fault chain first_unjoined
  none_between e = rw (between-none nodes class side.start side.end e) (by (node_at nodes class side.start) (node_at nodes class side.end))
    where
      by : (a b : Option ℕ) → chain edges [] a b ≡ None
      by None b = refl
      by (Some a) None = refl
      by (Some a) (Some b) = refl

  -- the point after a node: the one at the next place, or the end
  abbrev IsPoint : ℕ → Option Place → ℕ → Type 0
  IsPoint b None after = after ≡ b
  IsPoint b (Some q) after = Some after ≡ node_at nodes class q

  -- the walk looks on from p: o is the next place, and the point after is `after`
  pub record LooksOn (b : ℕ) (p : Place) (o : Option Place) (after : ℕ) : Type 0 where
    pub next : o ≡ next_place nodes class p side.end
    pub point : IsPoint b o after

  pub to-next : (b : ℕ) (p q : Place) (o r : Option Place) (after m : ℕ) → r ≡ next_place nodes class p side.end → r ≡ Some q → o ≡ Some q → after ≡ m → Some m ≡ node_at nodes class q → LooksOn b p o after
  to-next b p q o r after m e f h i j = record { next = h ∙ sym f ∙ e; point = subst (λ x. IsPoint b x after) (sym h) (ap Some i ∙ j) }

  pub to-end : (b : ℕ) (p : Place) (o r : Option Place) (after : ℕ) → r ≡ next_place nodes class p side.end → r ≡ None → o ≡ r → after ≡ b → LooksOn b p o after
  to-end b p o r after e f h i = record { next = h ∙ e; point = subst (λ x. IsPoint b x after) (sym (h ∙ f)) i }

  -- the nodes from the next place on begin with the point after
  point-is : (b : ℕ) (o : Option Place) (after : ℕ) → IsPoint b o after → slice_index_or (nodes_from o) 0 b ≡ after
  point-is b None after e = sym e
  point-is b (Some q) after e = rw (← e) refl

  -- that point is joined: then it is looked at
  looks : (b n : ℕ) (o : Option Place) (after : ℕ) → IsPoint b o after → joined edges n after ≡ true → first_unjoined edges n (nodes_from o) b ≡ left b after o
  unfolding first_unjoined
  looks b n None after e t = refl
  looks b n (Some q) after e t = rw (← e, t) refl

  module _ (near : NearSide side) (a b n : ℕ) (here : Option Place) (L : IsLeft a b n here) (p : Place) (at : here ≡ Some p) where
    here-left : IsLeft a b n (Some p)
    here-left = subst (IsLeft a b n) at L

    pub next-near : (q : Place) → Some q ≡ next_place nodes class p side.end → IsAt q
    next-near q e = (next-at near p here-left.at.line here-left.at.near (Some q) e).0

  module _ (near : NearSide side) (a b n : ℕ) (here : Option Place) (L : IsLeft a b n here) (p : Place) (at : here ≡ Some p) (o : Option Place) (after : ℕ) (N : LooksOn b p o after) where
    turn : MayBeAt o × ((way o < way (Some p)) × (nodes_between nodes class p side.end ≡ nodes_from o))
    turn = let l = here-left near a b n here L p at in next-at near p l.at.line l.at.near o N.next

    pub shorter : way o < way here
    shorter = subst (λ h. way o < way h) (sym at) turn.1.0

    module _ (t : Bool) (j : t ≡ joined edges n after) where
      asked : chain_fault nodes edges class side ≡ hanging a b (if t then first_unjoined edges n (nodes_from o) b else Some n)
      asked = (here-left near a b n here L p at).answer ∙ ap (λ xs. hanging a b (loose b n xs)) turn.1.1 ∙ rw (point-is b o after N.point, ← j) refl

      pub passes : t ≡ true → IsLeft a b after o
      passes e = record { at = turn.0; answer = asked ∙ rw e (ap (hanging a b) (looks b n o after N.point (sym j ∙ e))) }

      pub stops : t ≡ false → chain_fault nodes edges class side ≡ Some (record { node = n; start = a; end = b })
      stops e = asked ∙ rw e refl
