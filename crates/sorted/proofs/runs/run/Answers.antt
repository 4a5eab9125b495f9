use Rattle.std.proofs.Common.{◌≡◌, ◌*◌, ◌^◌, ◌<◌, ◌∙◌, refl, sym, subst, arith, ℕ, List, [], ◌∷◌, slice_get, None}
use Rattle.std.specs.List.Sorted.{IsPartitionedBy}
use Rattle.std.proofs.lemmas.List.{take_rest}
use Rattle.sorted.proofs.Beginning.{begins, begins-parted, none-left, none-begins, run-is}
use Rattle.sorted.proofs.runs.run.Goals as goal

left_empty : {xs : List (List ℕ)} → slice_get xs 0 ≡ None → xs ≡ []
left_empty {xs} h = go xs h
  where
    go : (xs : List (List ℕ)) → slice_get xs 0 ≡ None → xs ≡ []
    go [] h = refl
    go (x ∷ xs) h = cc

pub count_beginning-requires : goal.count_beginning-requires
count_beginning-requires g c =
    let row = c.args.row.now in
    let key = c.args.key.now in
    let low = c.count_below.ensures in
    let small : g.row.N * 8 < 2 ^ 63 = let s = c.requires.few_columns in omega arith in
    (small, subst (IsPartitionedBy (begins row c.requires.sorted key)) (sym (take_rest row _)) (begins-parted row c.requires.sorted key _ low.bound low.parted))

pub returns : goal.returns
returns g c =
    let row = c.args.row.now in
    let is = take_rest row c.count_below.result in
    let low = c.count_below.ensures in
    let n = c.count_beginning.ensures in
    rw is (run-is row c.requires.sorted c.args.key.now _ low.bound low.parted _ (rw is at n.parted) (rw is at n.bound))

pub returns-in_default : goal.returns-in_default
returns-in_default g c =
    let row = c.args.row.now in
    let low = c.count_below.ensures in
    let is = take_rest row c.count_below.result in
    let h = rw is at c.in_default.ensures.value in
    is ∙ (left_empty (sym h) ∙ sym (none-left row c.requires.sorted c.args.key.now _ low.bound low.parted (sym h)))

pub returns-then-not-starts_with : goal.returns-then-not-starts_with
returns-then-not-starts_with g c =
    let row = c.args.row.now in
    let low = c.count_below.ensures in
    let h = rw (take_rest row c.count_below.result) at c.in-Some.ensures.value in
    let f = sym c.starts_with.ensures.value ∙ c.if-not-starts_with.true in
    sym (none-begins row c.requires.sorted c.args.key.now _ low.bound low.parted c.in-Some.entry.now (sym h) f)
