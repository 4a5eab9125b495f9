-- Several calls, one after the other, by what their contracts say of each: the same splitting whether marks come at once or later. Assumes nothing.
use Rattle.std.proofs.Common.{◌≡◌, refl, sym, ap, ap₂, ◌∙◌, subst, Bool, true, false, cond, ◌⊎◌, ⊎_elim, inl, inr, List, [], ◌∷◌, ℕ, ◌+◌, ◌*◌, arith, ◌/◌, leb, leb-true, ltb, ◌≤◌, length, ℤ, Contains, subst₂, Some}
use Rattle.refusals.specs.Said.{accepted, refusal, is_accepted}
use Rattle.refusals.specs.declared.Refusal.TheVariants.{BadTable, NoSuchCell, AlreadySplit, FinestLevel, NoRoom}
use Rattle.table.specs.declared.Head.{Head}
use Rattle.table.specs.Mesh.{Cell, at, is_leaf, table}
use Rattle.table.specs.Formed.{Formed, well_formed}
use Rattle.table.specs.Rows.{IsTable, cells_in, head_values, after_split}
use Rattle.table.specs.Refine.{refine_says, split_row}
use Rattle.table.proofs.Cells.{length-table}
use Rattle.table.proofs.Refining.{accepted-facts, refine-values, refined-cells}
use Rattle.table.proofs.Wellformed.{formed-facts}
use Rattle.coarsest.specs.declared.Engine.{Engine}
use Rattle.coarsest.specs.Passes.{evened, difference}
use Rattle.coarsest.specs.Names.{find, splitting}
use Rattle.coarsest.specs.InTurn.{Name, Possible, EachInTurn, SameLeaves, split_named, split_in_turn}
use Rattle.coarsest.specs.InTurn.{PassedOver as PassesOver}
use Rattle.coarsest.proofs.Least.{is-none}
use Rattle.coarsest.proofs.InTurn.{whole-split, passed-kept, Adds, Alike, list-adds, leaves-same, cells-alike, later-alike}
use Rattle.coarsest.proofs.Ends.{evened-grows}
use Rattle.even.specs.Even.{even_says, even_cells, even_head, even_splits}
use Rattle.even.proofs.Held.{head-same, even-cells, definitions-agree}
use Rattle.even.specs.Later.{Lent, cells_of, Evened, Refined, PassedOver, RefinedInTurn, SameMesh, MoreSplitsFinerMesh}

-- cells and leaves grow together: four cells, three leaves
abbrev pub Grows : Head → Head → Type 0
Grows g h = 4 * h.leaves + 3 * g.count ≡ 4 * g.leaves + 3 * h.count

-- ---- an evening that was accepted

pub record Accepted (e : Engine) (row : List ℤ) (head h : Head) : Type 0 where
  pub formed : IsTable row head
  pub fits : length (even_cells e row head) ≤ length row / 8
  pub head_after : h ≡ even_head e row head

pub accepted-even : (e : Engine) (row : List ℤ) (head h : Head) (splits : ℕ) → even_says e row head ≡ accepted (splits ∷ head_values h) → Accepted e row head h
unfolding even_says
accepted-even e row head h splits says = by (well_formed row head) (leb (length (even_cells e row head)) (length row / 8)) refl refl says
  where
    by : (a b : Bool) → well_formed row head ≡ a → leb (length (even_cells e row head)) (length row / 8) ≡ b
        → cond a (cond b (accepted (even_splits e row head ∷ head_values (even_head e row head))) (refusal NoRoom)) (refusal BadTable)
        ≡ accepted (splits ∷ head_values h)
        → Accepted e row head h
    by true true a b says = record { formed = a; fits = leb-true _ _ b; head_after = head-same h (even_head e row head) (cc) (cc) (cc) }
    by true false a b says = let z : ◌≡◌ {A = ℕ} 0 1 = cc in absurd (omega arith)
    by false b a b' says = let z : ◌≡◌ {A = ℕ} 0 1 = cc in absurd (omega arith)

record Evening (e : Engine) (before after : Lent) : Type 0 where
  formed : Formed before.head.max_level (cells_of before)
  cells : cells_of after ≡ even_cells e before.row before.head
  max_level : after.head.max_level ≡ before.head.max_level
  grows : Grows before.head after.head

evening : (e : Engine) (before after : Lent) → Evened e before after → Evening e before after
evening e before after w =
    let a = accepted-even e before.row before.head after.head w.splits w.room_enough in
    let level = ap (λ (h : Head). h.max_level) a.head_after in
    let says = w.room_enough ∙ ap (λ (m : ℕ). accepted (w.splits ∷ after.head.count ∷ after.head.leaves ∷ m ∷ [])) level in
    let d = (definitions-agree e before.head before.row).done w.splits after.head.count after.head.leaves says in
    let cells = d.1 in
    let leaves = d.2 in
    record {
      formed = (formed-facts before.row before.head a.formed).cells;
      cells = ap₂ cells_in w.row_after a.head_after ∙ even-cells e before.row before.head a.formed a.fits;
      max_level = level;
      grows = omega arith;
    }

pub evening-formed : (e : Engine) (before after : Lent) → Evened e before after → Formed before.head.max_level (cells_of before)
evening-formed e before after w = (evening e before after w).formed

-- ---- a list split in turn by refine

pub record InTurn (names : List Name) (before after : Lent) : Type 0 where
  pub each : EachInTurn before.head.max_level (cells_of before) names
  pub cells : cells_of after ≡ split_in_turn (cells_of before) names
  pub max_level : after.head.max_level ≡ before.head.max_level
  pub grows : Grows before.head after.head

record OneInTurn (n : Name) (before after : Lent) : Type 0 where
  possible : Possible before.head.max_level (cells_of before) n ⊎ PassesOver (cells_of before) n
  cells : cells_of after ≡ split_named (cells_of before) n
  max_level : after.head.max_level ≡ before.head.max_level
  grows : Grows before.head after.head

values-same : (g h : Head) → accepted (head_values g) ≡ accepted (head_values h) → g ≡ h
values-same g h e = head-same g h (cc) (cc) (cc)

refined-one : (n : Name) (before after : Lent) → Refined n before after → OneInTurn n before after
refined-one n before after w =
    let ok : is_accepted (refine_says before.row before.head w.id) ≡ true = ap is_accepted w.possible in
    let f = accepted-facts before.row before.head w.id ok in
    let h : after.head ≡ after_split before.head = values-same _ _ (sym w.possible ∙ refine-values before.row before.head w.id ok) in
    let whole = is-none _ f.leaf in
    let row : after.row ≡ split_row before.row before.head.count w.id = w.row_after ∙ ap (λ (b : Bool). cond b (split_row before.row before.head.count w.id) before.row) ok in
    record {
      possible = inl (record { id = w.id; named = w.named; whole = whole; finer = f.finer });
      cells = ap₂ table row (ap (λ (x : Head). x.count) h) ∙ refined-cells before.row before.head w.id f ∙ sym (whole-split (cells_of before) n w.id w.named whole);
      max_level = ap (λ (x : Head). x.max_level) h;
      grows = rw h (omega arith);
    }

pub record Passed (row : List ℤ) (head : Head) (id : ℕ) : Type 0 where
  pub formed : IsTable row head
  pub split : is_leaf (cells_in row head) id ≡ false

pub passed-facts : (row : List ℤ) (head : Head) (id : ℕ) → refine_says row head id ≡ refusal (AlreadySplit id) → Passed row head id
passed-facts row head id says =
    by (well_formed row head) (ltb id head.count) (is_leaf (cells_in row head) id) (ltb (at (cells_in row head) id).level head.max_level)
    (leb (head.count + 4) (length row / 8)) refl refl says
  where
    by : (a b c d f : Bool) → well_formed row head ≡ a → is_leaf (cells_in row head) id ≡ c
        → cond a (cond b (cond c (cond d (cond f (accepted (head_values (after_split head))) (refusal NoRoom)) (refusal (FinestLevel id)))
        (refusal (AlreadySplit id))) (refusal (NoSuchCell id))) (refusal BadTable) ≡ refusal (AlreadySplit id)
        → Passed row head id
    by true true false d f a c says = record { formed = a; split = c }
    by true true true true true a c says = let z : ◌≡◌ {A = ℕ} 0 1 = cc in absurd (omega arith)
    by true true true true false a c says = let z : ◌≡◌ {A = ℕ} 6 9 = cc in absurd (omega arith)
    by true true true false f a c says = let z : ◌≡◌ {A = ℕ} 10 9 = cc in absurd (omega arith)
    by true false c' d f a c says = let z : ◌≡◌ {A = ℕ} 8 9 = cc in absurd (omega arith)
    by false b c' d f a c says = let z : ◌≡◌ {A = ℕ} 7 9 = cc in absurd (omega arith)

found-split : (t : List Cell) (n : Name) (id : ℕ) → find t n.root n.route ≡ Some id → is_leaf t id ≡ false → PassesOver t n
unfolding splitting
found-split t n id f s = rw (f, s) refl

passed-one : (n : Name) (before after : Lent) → PassedOver n before after → OneInTurn n before after
passed-one n before after w =
    let over = found-split (cells_of before) n w.id w.named (passed-facts before.row before.head w.id w.passed_over).split in
    let same = w.unchanged in
    record {
      possible = inr over;
      cells = ap cells_of same ∙ sym (passed-kept (cells_of before) n over);
      max_level = ap (λ (t : Lent). t.head.max_level) same;
      grows = rw same (omega arith);
    }

pub in-turn : (names : List Name) (before after : Lent) → RefinedInTurn names before after → InTurn names before after
unfolding split_in_turn
in-turn [] before after same =
    record { each = tt; cells = ap cells_of same; max_level = ap (λ (t : Lent). t.head.max_level) same; grows = rw same (omega arith) }
in-turn (n ∷ ns) before after w =
    let next = w.0 in
    let one = ⊎_elim (refined-one n before next) (passed-one n before next) w.1 in
    let rest = in-turn ns next after w.2 in
    let g = one.grows in
    let h = rest.grows in
    record {
      each = (one.possible, subst₂ (λ (m : ℕ) (t : List Cell). EachInTurn m t ns) one.max_level one.cells rest.each);
      cells = rest.cells ∙ ap (λ (t : List Cell). split_in_turn t ns) one.cells;
      max_level = rest.max_level ∙ one.max_level;
      grows = omega arith;
    }

-- what the list makes of the table
pub turn-adds : (names : List Name) (before after : Lent) → Formed before.head.max_level (cells_of before) → RefinedInTurn names before after
    → Adds before.head.max_level (cells_of before) (cells_of after) (λ r p. Contains names (record { root = r; route = p }))
turn-adds names before after formed w =
    let t = in-turn names before after w in
    rw t.cells (list-adds before.head.max_level names (cells_of before) formed t.each)

-- ---- more marks, finer mesh

pub finer-mesh : MoreSplitsFinerMesh
finer-mesh e few more few' more' roots level splits w v =
    let a = evening e few few' w in
    let b = evening e more more' v in
    let fine = subst (λ (m : ℕ). Formed m (cells_of more)) (sym level) b.formed in
    let same : even_cells e more.row more.head ≡ evened e (difference e) few.head.max_level (cells_of more) =
    ap (λ (m : ℕ). evened e (difference e) m (cells_of more)) (sym level) in
    rw (a.cells, b.cells ∙ same)
    (evened-grows (difference e) few.head.max_level e e (cells_of few) (cells_of more) a.formed fine roots splits)

-- ---- marks that come later

module _ (e : Engine) (names : List Name) (start evened_first later parts first once : Lent)
    (w1 : Evened e start evened_first) (w2 : RefinedInTurn names evened_first later) (w3 : Evened e later parts)
    (w4 : RefinedInTurn names start first) (w5 : Evened e first once) where
  abbrev k : ℕ
  k = difference e

  abbrev M : ℕ
  M = start.head.max_level

  abbrev t : List Cell
  t = cells_of start

  abbrev at-end : List Cell → List Cell
  at-end u = evened e k M (split_in_turn u names)

  evening1 : Evening e start evened_first
  evening1 = evening e start evened_first w1

  turn2 : InTurn names evened_first later
  turn2 = in-turn names evened_first later w2

  evening3 : Evening e later parts
  evening3 = evening e later parts w3

  turn4 : InTurn names start first
  turn4 = in-turn names start first w4

  evening5 : Evening e first once
  evening5 = evening e first once w5

  level-later : later.head.max_level ≡ M
  level-later = turn2.max_level ∙ evening1.max_level

  cells-parts : cells_of parts ≡ at-end (evened e k M t)
  cells-parts =
      evening3.cells
      ∙ ap₂ (λ (m : ℕ) (u : List Cell). evened e k m u) level-later (turn2.cells ∙ ap (λ (u : List Cell). split_in_turn u names) evening1.cells)

  cells-once : cells_of once ≡ at-end t
  cells-once = evening5.cells ∙ ap₂ (λ (m : ℕ) (u : List Cell). evened e k m u) turn4.max_level turn4.cells

  alike : Alike M (at-end (evened e k M t)) (at-end t)
  alike = later-alike e k M t names evening1.formed turn4.each

  same-count : parts.head.count ≡ once.head.count
  same-count =
      sym (length-table parts.row parts.head.count) ∙ ap length cells-parts ∙ cells-alike M _ _ alike ∙ sym (ap length cells-once)
      ∙ length-table once.row once.head.count

  same-leaves : parts.head.leaves ≡ once.head.leaves
  same-leaves =
      let a = evening1.grows in
      let b = turn2.grows in
      let c = evening3.grows in
      let d = turn4.grows in
      let f = evening5.grows in
      let n = same-count in
      omega arith

  pub ends-same : SameMesh parts once
  ends-same =
      record {
        leaves = subst₂ SameLeaves (sym cells-parts) (sym cells-once) (leaves-same M _ _ alike);
        head = head-same parts.head once.head same-count same-leaves
            (evening3.max_level ∙ level-later ∙ sym (evening5.max_level ∙ turn4.max_level));
      }
