-- Refused as the ring is judged, and then what the cut says.
use Rattle.std.proofs.Common.{List, ℤ, Bool, true, false, [], length, ◌≡◌, refl, ap, ◌∙◌, Err, rules, cond}
use Rattle.refusals.specs.Said.{Said, accepted, refused, if_accepted}
use Rattle.refusals.proofs.Settled.{as-refused}
use Rattle.strips.specs.Rings.{ring_in_range, ring_slants}
use Rattle.strips.specs.Said.{strips_says, strips_leave, counted, laid, judged}
use Rattle.strips.specs.Strips.{strips_of}
use Rattle.strips.proofs.Laying.{few-points}
use Rattle.strips.proofs.strips.Goals as goal

pub returns-in_err-judge : goal.returns-in_err-judge
unfolding strips_says strips_leave
returns-in_err-judge c =
    let ps = c.args.points.now in
    let why = c.in_err-judge.field-0.0 in
    let same : c.from_residual.result ≡ Err why = search rules in
    let says = c.in_err-judge.ensures (counted (length (strips_of ps)) (length c.args.out.now)) in
    record { answer = rw same says; row = rw (← says, (as-refused why).2) refl }

-- a ring of which nothing is said is in range
in_range : (a b : Bool) → accepted [] ≡ cond a (cond b (refused 4 0) (accepted [])) (refused 3 0) → a ≡ true
in_range true b e = refl
in_range false b e = absurd cc

pub cut_many-requires : goal.cut_many-requires
cut_many-requires c =
    let ps = c.args.points.now in
    few-points ps (in_range (ring_in_range ps) (ring_slants ps) (c.in_ok-judge.ensures (accepted [])))

-- either cut
module _ (ps out : List (List ℤ)) (said : Said) (fine : (o : Said) → o ≡ judged 0 ps o)
    (v : said ≡ counted (length (strips_of ps)) (length out)) where
  says : said ≡ strips_says ps (length out)
  unfolding strips_says
  says = v ∙ fine (counted (length (strips_of ps)) (length out))

  leaves : (out' : List (List ℤ)) → out' ≡ if_accepted said (laid (strips_of ps) out) out → out' ≡ strips_leave ps out
  unfolding strips_leave
  leaves out' e = e ∙ ap (λ (x : Said). if_accepted x (laid (strips_of ps) out) out) says

pub returns-then-points-le-FEW : goal.returns-then-points-le-FEW
returns-then-points-le-FEW c =
    let k = c.cut_few.ensures in
    let fine : (o : Said) → o ≡ judged 0 c.args.points.now o = λ o. c.in_ok-judge.ensures o in
    record { answer = says _ _ _ fine k.answer; row = leaves _ _ _ fine k.answer _ k.row }

pub returns : goal.returns
returns c =
    let k = c.cut_many.ensures in
    let fine : (o : Said) → o ≡ judged 0 c.args.points.now o = λ o. c.in_ok-judge.ensures o in
    record { answer = says _ _ _ fine k.answer; row = leaves _ _ _ fine k.answer _ k.row }
