-- The number of cells of a splitting: there is one, and a splitting that splits more has no fewer. Assumes nothing.
use Rattle.std.proofs.Common.{◌≡◌, refl, sym, ap, ◌∙◌, ◌⊎◌, inl, inr, ⊎_elim, ◌≢◌, ℕ, zero, suc, ◌<◌, ◌≤◌, arith}
use native.Mathlib.Decide.{ℕ_discrete, dec_lt}
use Rattle.coarsest.specs.Names.{Splitting, Roots, HasCells, ◌⊆◌}
use Rattle.coarsest.proofs.Least.{stands-more}

-- n pigeons in m seats, one to a seat
pick : {P : Type 0} → Dec P → ℕ → ℕ → ℕ
pick (yes p) x y = x
pick (no p) x y = y

picked : {P : Type 0} (d : Dec P) (x y : ℕ) → (P × (pick d x y ≡ x)) ⊎ ((P → ⊥) × (pick d x y ≡ y))
unfolding pick
picked (yes p) x y = inl (p, refl)
picked (no p) x y = inr (p, refl)

pigeon : (n m : ℕ) (f : ℕ → ℕ) → ((i : ℕ) → i < n → f i < m) → ((i j : ℕ) → i < n → j < n → f i ≡ f j → i ≡ j) → n ≤ m
pigeon zero m f lt inj = omega arith
pigeon (suc n) zero f lt inj = let h = lt n (omega arith) in absurd (omega arith)
pigeon (suc n) (suc m) f lt inj =
    let h = pigeon n m g glt ginj in omega arith
  where
    g : ℕ → ℕ
    g j = pick (ℕ_discrete (f j) m) (f n) (f j)

    case : (j : ℕ) → ((f j ≡ m) × (g j ≡ f n)) ⊎ ((f j ≢ m) × (g j ≡ f j))
    case j = picked (ℕ_discrete (f j) m) (f n) (f j)

    glt : (j : ℕ) → j < n → g j < m
    glt j h =
        ⊎_elim
        (λ c. (let e = c.1 in let b = lt n (omega arith) in let ne' : f n ≢ m = (λ q. (let z = inj j n (omega arith) (omega arith) (c.0 ∙ sym q) in omega arith)) in omega arith))
        (λ c. (let e = c.1 in let b = lt j (omega arith) in let ne' = c.0 in omega arith))
        (case j)

    ginj : (i j : ℕ) → i < n → j < n → g i ≡ g j → i ≡ j
    ginj i j hi hj e =
        ⊎_elim
        (λ c. ⊎_elim
        (λ d. inj i j (omega arith) (omega arith) (c.0 ∙ sym d.0))
        (λ d. (let z = inj n j (omega arith) (omega arith) (sym c.1 ∙ e ∙ d.1) in absurd (omega arith)))
        (case j))
        (λ c. ⊎_elim
        (λ d. (let z = inj i n (omega arith) (omega arith) (sym c.1 ∙ e ∙ d.1) in absurd (omega arith)))
        (λ d. inj i j (omega arith) (omega arith) (sym c.1 ∙ e ∙ d.1))
        (case j))
        (case i)

module _ (R : Roots) (S T : Splitting) (m n : ℕ) (more : S ⊆ T) (a : HasCells R S m) (b : HasCells R T n) where
  -- each cell of S is one of T
  over : (i : ℕ) → i < m → (j : ℕ) × (j < n) × (b.root j ≡ a.root i) × (b.route j ≡ a.route i)
  over i h =
      let k = a.known i h in
      b.all (a.root i) (a.route i) k.0 k.1 (stands-more T S more (a.root i) (a.route i) (a.stands i h))

  seat : (i : ℕ) → Dec (i < m) → ℕ
  seat i (yes h) = (over i h).0
  seat i (no h) = 0

  seat-is : (i : ℕ) (d : Dec (i < m)) → i < m → (seat i d < n) × (b.root (seat i d) ≡ a.root i) × (b.route (seat i d) ≡ a.route i)
  unfolding seat
  seat-is i (yes h) l = ((over i h).1, (over i h).2, (over i h).3)
  seat-is i (no h) l = absurd (h l)

  pub cells-fewer : m ≤ n
  cells-fewer =
      pigeon m n (λ i. seat i (dec_lt i m)) (λ i h. (seat-is i (dec_lt i m) h).0) (λ i j hi hj e.
      let p = seat-is i (dec_lt i m) hi in
      let q = seat-is j (dec_lt j m) hj in
      a.once i j hi hj (sym p.1 ∙ ap b.root e ∙ q.1) (sym p.2 ∙ ap b.route e ∙ q.2))
