-- All cells from the roots: each stands in the subtree of one, and those that do not meet a hold nothing for it. Assumes nothing.
use Rattle.std.proofs.Common.{◌≡◌, subst, true, false, None, ◌⊎◌, inl, inr, List, ℕ, ◌+◌, ◌<◌, ◌≤◌, arith, length}
use mathlib.Core.Logic.{by_cases}
use native.Mathlib.Decide.{dec_lt, ℕ_discrete}
use Rattle.refusals.specs.Limits.{max_slots}
use Rattle.table.specs.Mesh.{Cell, at}
use Rattle.table.specs.Formed.{Formed}
use Rattle.table.proofs.Meshes.{root_in}
use Rattle.coarsest.specs.Passes.{due}
use Rattle.table.proofs.Cells.{length-table}
use Rattle.search.specs.declared.around.Around.{Around}
use Rattle.search.specs.Search.{meet, Under, RootsBelow, Passed}
use Rattle.search.proofs.Meeting.{rooted, near_apart}
use Rattle.search.proofs.Trees.{far-owes, apart-asks}

-- b stands in the subtree of a root whose id is below c
abbrev pub Seen : List Cell → ℕ → ℕ → Type 0
Seen t c b = (r : ℕ) × (r < c) × ((at t r).parent ≡ None) × Under t r b

-- or of one that does not meet a
abbrev pub Aside : List Cell → ℕ → ℕ → Type 0
Aside t a b = (r : ℕ) × ((at t r).parent ≡ None) × (meet (at t a).box (at t r).box ≡ false) × Under t r b

pub seen_first : (t : List Cell) (a r b : ℕ) → Passed t a 0 r → Seen t r b → Aside t a b
seen_first t a r b p s = (s.0, s.2, p s.0 (omega arith) s.1 s.2, s.3)

-- from c to the next root that meets a
pub seen_next : (t : List Cell) (a c r b : ℕ) → Passed t a (c + 1) r → Seen t r b → (Seen t c b ⊎ Under t c b) ⊎ Aside t a b
seen_next t a c r b p s =
    by_cases (ℕ_discrete s.0 c)
    (λ e. inl (inr (subst (λ (x : ℕ). Under t x b) e s.3)))
    (λ n.
    by_cases (dec_lt s.0 c)
    (λ l. inl (inl (s.0, l, s.2, s.3)))
    (λ l. inr (s.0, s.2, p s.0 (omega arith) s.1 s.2, s.3)))

pub seen_all : (M : ℕ) (t : List Cell) → Formed M t → (top c : ℕ) → RootsBelow t top → top ≤ c → (b : ℕ) → b < length t → Seen t c b
seen_all M t formed top c below l b h =
    let r = rooted M t formed b h in
    let g = below r.root r.top in
    (r.root, omega arith, r.top, r.under)

-- nothing there is to be split for a, or asks for a to be split
module _ (M : ℕ) (t : List Cell) (formed : Formed M t) (k a : ℕ) (ha : a < length t) where
  pub aside-owes : (b : ℕ) → Aside t a b → due k t a b ≡ true → ⊥
  aside-owes b s d = far-owes M t formed s.0 k a ha (near_apart k (at t a) (at t s.0) s.2) b s.3 d

  pub aside-asks : (b : ℕ) → Aside t a b → due k t b a ≡ true → ⊥
  aside-asks b s d = apart-asks M t formed s.0 k a ha s.2 b s.3 d

-- no root is past the table, and none is a cell of another level
pub roots-all : (t : List Cell) → RootsBelow t (length t)
roots-all t i e = root_in t i e

pub roots_less : (M : ℕ) (t : List Cell) → Formed M t → (i : ℕ) → RootsBelow t (i + 1) → ((at t i).level ≡ 0 → ⊥) → RootsBelow t i
roots_less M t formed i below o j e =
    let h = below j e in
    by_cases (ℕ_discrete j i)
    (λ d. absurd (o (subst (λ (x : ℕ). (at t x).level ≡ 0) d (formed.root j e).level)))
    (λ d. omega arith)

-- the ids that a search from the roots tries are the table's
pub root-inside : (s : Around) (i : ℕ) → i < s.roots.now.end → i < s.table.head.count
root-inside s i h = omega (arith, s.indexed.inside, length-table s.table.row.now s.table.head.count)

pub root-few : (s : Around) (i : ℕ) → i < s.roots.now.end → i < max_slots
root-few s i h = omega (arith, root-inside s i h, s.table.within, s.table.slots)
