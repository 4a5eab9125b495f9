-- One promise, one outcome. A contract of this project is an equation `say r ≡ what`, with `say` the rules' reading of an
-- answer, or `row ≡ what`. Any two outcomes that it permits coincide, as soon as the answer can be told from what is said of it.
-- Assumes nothing.
use Rattle.std.proofs.Common.{ℕ, zero, suc, ◌≡◌, refl, sym, ap, ◌∙◌, List, Result, Ok, Err}
use Rattle.refusals.specs.declared.Refusal.{Refusal}
use Rattle.refusals.specs.declared.Refusal.TheVariants.{WrongVersion, WrongLength, OutOfRange, Slanted, UnevenCell, NoRoom, BadTable, NoSuchCell, AlreadySplit, FinestLevel}
use Rattle.refusals.specs.Said.{Said, accepted, refused, refusal, said}

-- two answers of which the same is said are one, where `told` takes an answer back out of what is said of it
pub settled : {A B : Type 0} (say : A → B) (told : B → A) → ((a : A) → told (say a) ≡ a) → (what : B) (a b : A) → say a ≡ what → say b ≡ what → a ≡ b
settled say told back what a b p q = sym (back a) ∙ ap told (p ∙ sym q) ∙ back b

-- the refusal with a number and a place. No case has the number 0 or one above 10
abbrev numbered : ℕ → ℕ → Refusal
numbered zero p = BadTable
numbered (suc zero) p = WrongVersion
numbered (suc (suc zero)) p = WrongLength p
numbered (suc (suc (suc zero))) p = OutOfRange p
numbered (suc (suc (suc (suc zero)))) p = Slanted p
numbered (suc (suc (suc (suc (suc zero))))) p = UnevenCell p
numbered (suc (suc (suc (suc (suc (suc zero)))))) p = NoRoom
numbered (suc (suc (suc (suc (suc (suc (suc zero))))))) p = BadTable
numbered (suc (suc (suc (suc (suc (suc (suc (suc zero)))))))) p = NoSuchCell p
numbered (suc (suc (suc (suc (suc (suc (suc (suc (suc zero))))))))) p = AlreadySplit p
numbered (suc (suc (suc (suc (suc (suc (suc (suc (suc (suc n)))))))))) p = FinestLevel p

-- the answer that was said: its values, or its refusal
abbrev pub answer : {A : Type 0} → (List ℕ → A) → (Refusal → A) → Said → A
answer values refusing (accepted vs) = values vs
answer values refusing (refused n p) = refusing (numbered n p)

pub answer-refused : {A : Type 0} (values : List ℕ → A) (refusing : Refusal → A) (r : Refusal) → answer values refusing (refusal r) ≡ refusing r
answer-refused values refusing WrongVersion = refl
answer-refused values refusing (WrongLength p) = refl
answer-refused values refusing (OutOfRange p) = refl
answer-refused values refusing (Slanted p) = refl
answer-refused values refusing (UnevenCell p) = refl
answer-refused values refusing NoRoom = refl
answer-refused values refusing BadTable = refl
answer-refused values refusing (NoSuchCell p) = refl
answer-refused values refusing (AlreadySplit p) = refl
answer-refused values refusing (FinestLevel p) = refl

-- every refusal is said by a number and a place
pub as-refused : (r : Refusal) → (n p : ℕ) × (refusal r ≡ refused n p)
as-refused WrongVersion = (1, 0, refl)
as-refused (WrongLength p) = (2, p, refl)
as-refused (OutOfRange p) = (3, p, refl)
as-refused (Slanted p) = (4, p, refl)
as-refused (UnevenCell p) = (5, p, refl)
as-refused NoRoom = (6, 0, refl)
as-refused BadTable = (7, 0, refl)
as-refused (NoSuchCell p) = (8, p, refl)
as-refused (AlreadySplit p) = (9, p, refl)
as-refused (FinestLevel p) = (10, p, refl)

-- an answer is told from what is said of it, if its values tell it
told-back : {A : Type 0} (values : A → List ℕ) (back : List ℕ → A) → ((a : A) → back (values a) ≡ a) → (r : Result A Refusal)
    → answer (λ vs. Ok (back vs)) Err (said values r) ≡ r
told-back values back same (Ok a) = ap Ok (same a)
told-back values back same (Err why) = answer-refused (λ vs. Ok (back vs)) Err why

-- so a promise on what is said of an answer permits one answer
pub one-said : {A : Type 0} (values : A → List ℕ) (back : List ℕ → A) → ((a : A) → back (values a) ≡ a) → (what : Said) (a b : Result A Refusal)
    → said values a ≡ what → said values b ≡ what → a ≡ b
one-said values back same = settled (said values) (answer (λ vs. Ok (back vs)) Err) (told-back values back same)
