use Rattle.std.proofs.Common.{◌≡◌, ◌-◌, ◌≤◌, List, ℕ, length, map, take, drop, length-drop, take_all, sym, ap, ap₂, ◌∙◌, subst, arith}
use Rattle.sorted.specs.Firsts.{AreFirsts}
use Rattle.net.specs.First.{Firsts, rank_in}
use Rattle.places.specs.declared.Leaves.{Leaves}
use Rattle.places.specs.Places.{places_in, place_count, corner_count, place_entry, firsts}
use Rattle.places.proofs.Places.{count_is}
use Rattle.places.proofs.Firsts.{firsts_are}
use Rattle.places.proofs.Numbers.{front-firsts, front-ranked, front-count}
use Rattle.places.proofs.Leaves.number_places.Goals as goal

module _ (b : Leaves) (row : List ℕ) (long : length row ≡ place_count b) (A : AreFirsts (λ i. take 4 (place_entry (places_in b) i)) row) where
  all_firsts : row ≡ firsts (places_in b)
  all_firsts = firsts_are (places_in b) row (long ∙ sym (count_is b)) A

  -- the corners' part of the row, and the middles'
  front_is : (numbers : List ℕ) (n : ℕ) → numbers ≡ take n row → n ≡ corner_count b → numbers ≡ take (corner_count b) (firsts (places_in b))
  front_is numbers n e k = e ∙ ap₂ take k all_firsts

  behind_is : (middles : List ℕ) (n : ℕ) → middles ≡ take (length row - n) (drop n row) → n ≡ corner_count b → middles ≡ drop (corner_count b) (firsts (places_in b))
  behind_is middles n e k = e ∙ take_all (length row - n) (drop n row) (omega (arith, length-drop n row)) ∙ ap₂ drop k all_firsts

corners-fit : (b : Leaves) → corner_count b ≤ length (places_in b)
corners-fit b = let n = count_is b in omega arith

pub number_firsts-requires : goal.number_firsts-requires
number_firsts-requires c =
    let b = c.args.self.now in
    let k = c.requires.a_key_each in
    subst Firsts (sym (front_is b c.write_firsts.new.firsts (omega arith) c.write_firsts.ensures _ _ c.copy_from_slice.ensures.after c.corner_count-corners.ensures))
    (front-firsts (places_in b) (corner_count b) (corners-fit b))

pub returns-clause-numbers : goal.returns-clause-numbers
returns-clause-numbers c =
    let b = c.args.self.now in
    let k = c.requires.a_key_each in
    c.number_firsts.ensures.numbers
    ∙ ap (λ l. map (rank_in l) l) (front_is b c.write_firsts.new.firsts (omega arith) c.write_firsts.ensures _ _ c.copy_from_slice.ensures.after c.corner_count-corners.ensures)
    ∙ front-ranked (places_in b) (corner_count b) (corners-fit b)

pub returns-clause-middles : goal.returns-clause-middles
returns-clause-middles c =
    let k = c.requires.a_key_each in
    behind_is c.args.self.now c.write_firsts.new.firsts (omega arith) c.write_firsts.ensures _ _ c.copy_from_slice-2.ensures.after c.corner_count-corners.ensures

pub returns-clause-count : goal.returns-clause-count
returns-clause-count c =
    let b = c.args.self.now in
    let k = c.requires.a_key_each in
    c.number_firsts.ensures.count
    ∙ ap (λ l. rank_in l (length l)) (front_is b c.write_firsts.new.firsts (omega arith) c.write_firsts.ensures _ _ c.copy_from_slice.ensures.after c.corner_count-corners.ensures)
    ∙ front-count (places_in b) (corner_count b) (corners-fit b)
