-- The board of specs/LaterBoard.antt: what each call answers is computed, and the rest follows. Assumes nothing.
use Rattle.std.proofs.Common.{◌≡◌, refl, sym, subst, Bool, true, false, ◌&&◌, ◌||◌, not, ◌⊎◌, inl, inr, ⊎_elim, List, [], ◌∷◌, ℕ, ◌/◌, leb, leb-true, ltb, length, Option, None, Some, Contains}
use mathlib.Core.Bool.{false≢true}
use Rattle.std.specs.Option.{option_map_or}
use Rattle.refusals.specs.Said.{Said, refusal, is_accepted}
use Rattle.refusals.specs.declared.Refusal.TheVariants.{AlreadySplit}
use Rattle.cell.specs.Boxes.{se, border, shares_edge}
use Rattle.cell.specs.Ticks.{in_range, off, on}
use Rattle.cell.proofs.Contact.{and_left, and_right, or_cases}
use Rattle.table.specs.Slots.{cell_at, counted, same_z, in_slot, kept, put_cell, put_first, stored}
use Rattle.table.specs.Formed.{well_formed, shape_ok, rest_zero, cells_ok, cell_ok, place_ok, root_ok, side_ok, kids_ok, born_ok, kid_ok, same_but}
use Rattle.table.specs.Refine.{put_kid, split_row, refine_says}
use Rattle.table.specs.Mesh.{is_leaf, split, leaf_count, table}
use Rattle.table.proofs.Refining.{refine-values}
use Rattle.coarsest.specs.declared.Engine.{Engine}
use Rattle.coarsest.specs.declared.Engine.TheVariants.{Balancing, Conforming}
use Rattle.coarsest.specs.Passes.{due, step, with_each, pass, run, evened}
use Rattle.coarsest.specs.Names.{find, splitting}
use Rattle.coarsest.specs.InTurn.{Name, leaf_named}
use Rattle.coarsest.proofs.InTurn.{Adds, name_of}
use Rattle.even.specs.Rows.{flat, row_of}
use Rattle.even.specs.Even.{even_says, even_row, even_cells}
use Rattle.even.specs.Later.{Lent, cells_of, Evened, Refined, PassedOver, RefinedInTurn, evened_of}
use Rattle.even.specs.LaterBoard.{AtWork, corner, counts, refined_of, refined_if, refined_in_turn, roots, start, marks, split_first}
use Rattle.even.specs.LaterBoard.{counted as numbers, evened as first_evened, split_later, in_parts, at_once}
use Rattle.even.proofs.Later.{turn-adds, evening-formed}
use Rattle.even.proofs.Parts.{accepts}

-- ---- tests that compute

-- an evening is accepted
abbrev evens : Engine → Lent → Bool
evens e t = well_formed t.row t.head && leb (length (even_cells e t.row t.head)) (length t.row / 8)

even-one : (e : Engine) (t : Lent) → evens e t ≡ true → Evened e t (evened_of e t)
even-one e t h = accepts e t (and_left _ _ h) (leb-true _ _ (and_right (well_formed t.row t.head) _ h))

-- a cell is split, or is split already
abbrev is_split : Lent → ℕ → Bool
is_split t id = well_formed t.row t.head && (ltb id t.head.count && not (is_leaf (cells_of t) id))

abbrev takes : Lent → Option ℕ → Bool
takes t cell = option_map_or (λ id. is_accepted (refine_says t.row t.head id) || is_split t id) cell false

abbrev all-take : List Name → Lent → Bool
all-take [] t = true
all-take (n ∷ ns) t = takes t (find (cells_of t) n.root n.route) && all-take ns (refined_of t n)

is-false : (b : Bool) → not b ≡ true → b ≡ false
is-false true e = sym e
is-false false e = refl

passes : (t : Lent) (id : ℕ) → is_split t id ≡ true → refine_says t.row t.head id ≡ refusal (AlreadySplit id)
passes t id h =
    let rest = and_right (well_formed t.row t.head) _ h in
    rw (and_left (well_formed t.row t.head) _ h, and_left (ltb id t.head.count) _ rest, is-false _ (and_right (ltb id t.head.count) _ rest)) refl

take-one : (t : Lent) (n : Name) → takes t (find (cells_of t) n.root n.route) ≡ true → Refined n t (refined_of t n) ⊎ PassedOver n t (refined_of t n)
take-one t n h = by (find (cells_of t) n.root n.route) refl h
  where
    next : Option ℕ → Lent
    next o = option_map_or (λ id. refined_if (is_accepted (refine_says t.row t.head id)) t id) o t

    by : (o : Option ℕ) → find (cells_of t) n.root n.route ≡ o → takes t o ≡ true → Refined n t (next o) ⊎ PassedOver n t (next o)
    by None f h = absurd (false≢true h)
    by (Some id) f h =
        ⊎_elim
        (λ ok. inl (subst (λ (b : Bool). Refined n t (refined_if b t id)) (sym ok) (record { id = id; named = f; possible = refine-values t.row t.head id ok; row_after = rw ok refl })))
        (λ s.
        (let over = passes t id s in
        inr (subst (λ (said : Said). PassedOver n t (refined_if (is_accepted said) t id)) (sym over) (record { id = id; named = f; passed_over = over; unchanged = refl }))))
        (or_cases _ _ h)

take-all : (names : List Name) (t : Lent) → all-take names t ≡ true → RefinedInTurn names t (refined_in_turn t names)
take-all [] t h = refl
take-all (n ∷ ns) t h =
    (refined_of t n, take-one t n (and_left _ _ h), take-all ns (refined_of t n) (and_right (takes t (find (cells_of t) n.root n.route)) _ h))

-- ---- the board

record Computed (e : Engine) : Type 0 where
  first : evens e start ≡ true
  list : all-take marks (first_evened e) ≡ true
  again : evens e (split_later e) ≡ true
  all : all-take marks start ≡ true
  once : evens e split_first ≡ true
  possible : splitting (cells_of start) 1 [] ≡ false
  passed_over : splitting (cells_of (first_evened e)) 1 [] ≡ true
  cells : counts e ≡ numbers e
  leaf : leaf_named (cells_of (in_parts e)) 1 (se ∷ se ∷ []) ≡ Some corner
  no_leaf : leaf_named (cells_of (in_parts e)) 1 [] ≡ None

balance-computed : Computed Balancing
unfolding roots start marks split_first first_evened split_later in_parts at_once find splitting table cell_at counted well_formed shape_ok rest_zero same_z cells_ok cell_ok in_slot in_range place_ok root_ok side_ok off on kids_ok border shares_edge due evened pass run step with_each even_row even_says flat row_of born_ok kid_ok same_but leaf_count split put_kid split_row kept put_cell put_first stored
balance-computed =
    record { first = refl; list = refl; again = refl; all = refl; once = refl; possible = refl; passed_over = refl; cells = refl; leaf = refl; no_leaf = refl }

conform-computed : Computed Conforming
unfolding roots start marks split_first first_evened split_later in_parts at_once find splitting table cell_at counted well_formed shape_ok rest_zero same_z cells_ok cell_ok in_slot in_range place_ok root_ok side_ok off on kids_ok border shares_edge due evened pass run step with_each even_row even_says flat row_of born_ok kid_ok same_but leaf_count split put_kid split_row kept put_cell put_first stored
conform-computed =
    record { first = refl; list = refl; again = refl; all = refl; once = refl; possible = refl; passed_over = refl; cells = refl; leaf = refl; no_leaf = refl }

module _ (e : Engine) (c : Computed e) where
  evened-first : Evened e start (first_evened e)
  unfolding first_evened
  evened-first = even-one e start c.first

  all-split : RefinedInTurn marks start split_first
  unfolding split_first
  all-split = take-all marks start c.all

  -- the table whose list is split first has the roots of the other, and splits what it does
  all-adds : Adds start.head.max_level (cells_of start) (cells_of split_first) (λ r p. Contains marks (name_of r p))
  all-adds = turn-adds marks start split_first (evening-formed e start (first_evened e) evened-first) all-split

  works : AtWork e
  unfolding split_later in_parts at_once
  works =
      record {
        same_roots = λ r. sym (all-adds.roots r);
        more_splits = all-adds.keeps;
        evened_first = evened-first;
        then_split = take-all marks (first_evened e) c.list;
        evened_again = even-one e (split_later e) c.again;
        all_split = all-split;
        evened_once = even-one e split_first c.once;
        possible = c.possible;
        passed_over = c.passed_over;
        cells = c.cells;
        leaf = c.leaf;
        no_leaf = c.no_leaf;
      }

pub at-work : (e : Engine) → AtWork e
at-work Balancing = works Balancing balance-computed
at-work Conforming = works Conforming conform-computed
