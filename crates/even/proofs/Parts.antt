-- Room enough for the splits at first and one evening is room enough for the parts. Assumes nothing.
use Rattle.std.proofs.Common.{◌≡◌, refl, sym, ap, ap₂, subst, subst₂, ◌∙◌, Bool, false, cond, inl, inr, ⊎_elim, ◌⊎◌, List, [], ◌∷◌, ℕ, ◌+◌, ◌<◌, ◌≤◌, ◌/◌, arith, lt-ltb, length, is_none, Contains}
use Rattle.refusals.specs.Said.{is_accepted}
use Rattle.table.specs.Mesh.{Cell, is_leaf}
use Rattle.table.specs.Formed.{Formed}
use Rattle.table.specs.Rows.{IsTable, after_split}
use Rattle.table.specs.Refine.{split_row}
use Rattle.table.proofs.Cells.{length-table}
use Rattle.table.proofs.Meshes.{length-split}
use Rattle.table.proofs.Splits.{length-split_row}
use Rattle.table.proofs.Refining.{Refinable, accepted-facts, facts-accepted, refined-formed, refined-cells}
use Rattle.table.proofs.Wellformed.{formed-facts}
use Rattle.coarsest.specs.declared.Engine.{Engine}
use Rattle.coarsest.specs.Passes.{difference, evened}
use Rattle.coarsest.specs.InTurn.{Name, Possible, EachInTurn, split_named, split_in_turn}
use Rattle.coarsest.specs.InTurn.{PassedOver as PassesOver}
use Rattle.coarsest.proofs.Find.{at_split, tells}
use Rattle.coarsest.proofs.Evened.{evened-formed, evened-grown}
use Rattle.coarsest.proofs.InTurn.{name_of, Adds, list-adds, one-adds, later-each, later-alike, cells-more, cells-alike, whole-split, passed-kept}
use Rattle.even.specs.Even.{even_cells, even_splits}
use Rattle.even.specs.Later.{Lent, cells_of, Evened, Refined, PassedOver, RefinedInTurn, evened_of}
use Rattle.even.proofs.Held.{says-held, even-cells, even-table, even-long}
use Rattle.even.proofs.Later.{Accepted, accepted-even, passed-facts, InTurn, in-turn}

pub accepts : (e : Engine) (t : Lent) → IsTable t.row t.head → length (even_cells e t.row t.head) ≤ length t.row / 8 → Evened e t (evened_of e t)
accepts e t formed fits =
    record { splits = even_splits e t.row t.head; room_enough = says-held e t.row t.head formed fits; row_after = refl }

-- ---- a list for which there is room

before-table : (names : List Name) (before after : Lent) → RefinedInTurn names before after → IsTable after.row after.head → IsTable before.row before.head
before-table [] before after same f = subst (λ (t : Lent). IsTable t.row t.head) same f
before-table (n ∷ ns) before after w f =
    ⊎_elim
    (λ r. (accepted-facts before.row before.head r.id (ap is_accepted r.possible)).formed)
    (λ p. (passed-facts before.row before.head p.id p.passed_over).formed) w.1

refined-long : (n : Name) (before after : Lent) → Refined n before after → length after.row ≡ length before.row
refined-long n before after r =
    ap length (r.row_after ∙ ap (λ (b : Bool). cond b (split_row before.row before.head.count r.id) before.row) (ap is_accepted r.possible))
    ∙ length-split_row before.row before.head.count r.id

in-turn-long : (names : List Name) (before after : Lent) → RefinedInTurn names before after → length after.row ≡ length before.row
in-turn-long [] before after same = ap (λ (t : Lent). length t.row) same
in-turn-long (n ∷ ns) before after w =
    in-turn-long ns w.0 after w.2
    ∙ ⊎_elim (refined-long n before w.0) (λ p. ap (λ (t : Lent). length t.row) p.unchanged) w.1

record OneMore (n : Name) (t : Lent) : Type 0 where
  next : Lent
  done : Refined n t next ⊎ PassedOver n t next
  formed : IsTable next.row next.head
  cells : cells_of next ≡ split_named (cells_of t) n
  max_level : next.head.max_level ≡ t.head.max_level
  as_long : length next.row ≡ length t.row

module _ (n : Name) (t : Lent) (formed : IsTable t.row t.head) where
  abbrev on-cells : Formed t.head.max_level (cells_of t)
  on-cells = (formed-facts t.row t.head formed).cells

  split-one : Possible t.head.max_level (cells_of t) n → t.head.count + 4 ≤ length t.row / 8 → OneMore n t
  split-one p room =
      let inside = (tells t.head.max_level (cells_of t) on-cells n.root n.route p.id p.named).inside in
      let count = length-table t.row t.head.count in
      let r : Refinable t.row t.head p.id = record { formed = formed; inside = omega arith; leaf = ap is_none p.whole; finer = p.finer; room = room } in
      record {
        next = record { row = split_row t.row t.head.count p.id; head = after_split t.head };
        done = inl (record { id = p.id; named = p.named; possible = facts-accepted t.row t.head p.id r; row_after = rw (facts-accepted t.row t.head p.id r) refl });
        formed = refined-formed t.row t.head p.id r;
        cells = refined-cells t.row t.head p.id r ∙ sym (whole-split (cells_of t) n p.id p.named p.whole);
        max_level = refl;
        as_long = length-split_row t.row t.head.count p.id;
      }

  pass-one : PassesOver (cells_of t) n → OneMore n t
  pass-one s =
      let d = at_split (cells_of t) n.root n.route s in
      let inside = (tells t.head.max_level (cells_of t) on-cells n.root n.route d.id d.found).inside in
      let count = length-table t.row t.head.count in
      let below : d.id < t.head.count = omega arith in
      let no : is_leaf (cells_of t) d.id ≡ false = ap is_none d.kids in
      record {
        next = t;
        done = inr (record { id = d.id; named = d.found; passed_over = rw (formed, lt-ltb _ _ below, no) refl; unchanged = refl });
        formed = formed;
        cells = sym (passed-kept (cells_of t) n s);
        max_level = refl;
        as_long = refl;
      }

record AllMore (names : List Name) (t : Lent) : Type 0 where
  last : Lent
  done : RefinedInTurn names t last
  formed : IsTable last.row last.head

-- the name at the front of a list
module _ (n : Name) (ns : List Name) (t : Lent) (formed : IsTable t.row t.head) (each : EachInTurn t.head.max_level (cells_of t) (n ∷ ns))
    (room : length (split_in_turn (split_named (cells_of t) n) ns) ≤ length t.row / 8) where
  abbrev level : ℕ
  level = t.head.max_level

  front-on : Formed level (cells_of t)
  front-on = (formed-facts t.row t.head formed).cells

  front-adds : Adds level (cells_of t) (split_named (cells_of t) n) (λ r p. n ≡ name_of r p)
  front-adds = one-adds level (cells_of t) front-on n each.0

  front-fewer : length (split_named (cells_of t) n) ≤ length (split_in_turn (split_named (cells_of t) n) ns)
  front-fewer =
      let rest = list-adds level ns (split_named (cells_of t) n) front-adds.formed each.1 in
      cells-more level _ _ front-adds.formed rest.formed (λ r. sym (rest.roots r)) rest.keeps

  one-more : Possible level (cells_of t) n ⊎ PassesOver (cells_of t) n → OneMore n t
  one-more (inl p) =
      let longer = ap length (whole-split (cells_of t) n p.id p.named p.whole) ∙ length-split (cells_of t) p.id in
      let count = length-table t.row t.head.count in
      let fewer = front-fewer in
      split-one n t formed p (omega arith)
  one-more (inr s) = pass-one n t formed s

all-more : (names : List Name) (t : Lent) → IsTable t.row t.head → EachInTurn t.head.max_level (cells_of t) names
    → length (split_in_turn (cells_of t) names) ≤ length t.row / 8 → AllMore names t
unfolding split_in_turn
all-more [] t formed each room = record { last = t; done = refl; formed = formed }
all-more (n ∷ ns) t formed each room =
    let o = one-more n ns t formed each room each.0 in
    let each' = subst₂ (λ (m : ℕ) (u : List Cell). EachInTurn m u ns) (sym o.max_level) (sym o.cells) each.1 in
    let cells' = ap (λ (u : List Cell). length (split_in_turn u ns)) o.cells in
    let long' = ap (λ (x : ℕ). x / 8) o.as_long in
    let more = all-more ns o.next o.formed each' (omega arith) in
    record { last = more.last; done = (o.next, o.done, more.done); formed = more.formed }

-- ---- the parts

module _ (e : Engine) (names : List Name) (start first once : Lent) (w : RefinedInTurn names start first) (v : Evened e first once) where
  abbrev k : ℕ
  k = difference e

  abbrev M : ℕ
  M = start.head.max_level

  abbrev t : List Cell
  t = cells_of start

  abbrev u : List Cell
  u = split_in_turn t names

  at-end : Accepted e first.row first.head once.head
  at-end = accepted-even e first.row first.head once.head v.splits v.room_enough

  turn : InTurn names start first
  turn = in-turn names start first w

  start-table : IsTable start.row start.head
  start-table = before-table names start first w at-end.formed

  on : Formed M t
  on = (formed-facts start.row start.head start-table).cells

  -- the room that one evening has
  room : length (evened e k M u) ≤ length start.row / 8
  room =
      let f = at-end.fits in
      let long = ap (λ (x : ℕ). x / 8) (in-turn-long names start first w) in
      let same = ap₂ (λ (m : ℕ) (c : List Cell). length (evened e k m c)) turn.max_level turn.cells in
      omega arith

  adds-first : Adds M t u (λ r p. Contains names (name_of r p))
  adds-first = list-adds M names t on turn.each

  each-later : EachInTurn M (evened e k M t) names
  each-later = later-each e k M t names on turn.each

  adds-later : Adds M (evened e k M t) (split_in_turn (evened e k M t) names) (λ r p. Contains names (name_of r p))
  adds-later = list-adds M names (evened e k M t) (evened-formed e k M t on) each-later

  -- the parts end in as many cells, and on the way there are no more
  ends-as-many : length (evened e k M (split_in_turn (evened e k M t) names)) ≡ length (evened e k M u)
  ends-as-many = cells-alike M _ _ (later-alike e k M t names on turn.each)

  split-fewer : length (split_in_turn (evened e k M t) names) ≤ length (evened e k M (split_in_turn (evened e k M t) names))
  split-fewer = evened-grown e k M (split_in_turn (evened e k M t) names) adds-later.formed

  evened-fewer : length (evened e k M t) ≤ length (split_in_turn (evened e k M t) names)
  evened-fewer = cells-more M _ _ (evened-formed e k M t on) adds-later.formed (λ r. sym (adds-later.roots r)) adds-later.keeps

  fits-one : length (evened e k M t) ≤ length start.row / 8
  fits-one = let a = ends-as-many in let b = split-fewer in let c = evened-fewer in let d = room in omega arith

  abbrev one : Lent
  one = evened_of e start

  list : AllMore names one
  list =
      let a = ends-as-many in
      let b = split-fewer in
      let d = room in
      let cells = ap (λ (c : List Cell). length (split_in_turn c names)) (even-cells e start.row start.head start-table fits-one) in
      let long = ap (λ (x : ℕ). x / 8) (even-long e start.row start.head start-table fits-one) in
      all-more names one (even-table e start.row start.head start-table fits-one)
      (subst (λ (c : List Cell). EachInTurn M c names) (sym (even-cells e start.row start.head start-table fits-one)) each-later)
      (omega arith)

  fits-two : length (even_cells e list.last.row list.last.head) ≤ length list.last.row / 8
  fits-two =
      let turn2 = in-turn names one list.last list.done in
      let same = ap₂ (λ (m : ℕ) (c : List Cell). length (evened e k m c)) turn2.max_level
      (turn2.cells ∙ ap (λ (c : List Cell). split_in_turn c names) (even-cells e start.row start.head start-table fits-one)) in
      let a = ends-as-many in
      let d = room in
      let long = ap (λ (x : ℕ). x / 8) (in-turn-long names one list.last list.done ∙ even-long e start.row start.head start-table fits-one) in
      omega arith

  pub parts-fit : (evened : Lent) × (split_later : Lent) × (in_parts : Lent)
      × Evened e start evened × RefinedInTurn names evened split_later × Evened e split_later in_parts
  parts-fit = (one, list.last, evened_of e list.last, accepts e start start-table fits-one, list.done, accepts e list.last list.formed fits-two)
