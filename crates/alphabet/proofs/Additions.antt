-- What many symbols add up to, by the laws of their alphabet. Assumes nothing.
use Rattle.std.proofs.Common.{◌≡◌, ℕ, zero, suc, ◌<◌, ◌≢◌, sym, refl, ap, ◌∙◌, ap₂, inl, inr, arith}
use Rattle.std.proofs.lemmas.Bool.{cases_eq}
use Rattle.alphabet.specs.Rings.{Ring}
use Rattle.alphabet.proofs.Symbols.{zero_in, zero-add, cancel_left, cancel_right, mul-zero, shuffle}
use Rattle.alphabet.specs.Sums.{added}

pub added_same : (add : ℕ → ℕ → ℕ) (n : ℕ) (f g : ℕ → ℕ) → ((i : ℕ) → i < n → f i ≡ g i) → added add n f ≡ added add n g
added_same add zero f g h = refl
added_same add (suc n) f g h = ap₂ add (added_same add n f g (λ i l. h i (omega arith))) (h n (omega arith))

module _ {q : ℕ} {add : ℕ → ℕ → ℕ} {neg : ℕ → ℕ} {mul : ℕ → ℕ → ℕ} (r : Ring q add neg mul) where
  pub added_closed : (n : ℕ) (f : ℕ → ℕ) → ((i : ℕ) → i < n → f i < q) → added add n f < q
  added_closed zero f h = zero_in r
  added_closed (suc n) f h = r.add_closed (added add n f) (f n) (added_closed n f (λ i l. h i (omega arith))) (h n (omega arith))

  pub added_nought : (n : ℕ) (f : ℕ → ℕ) → ((i : ℕ) → i < n → f i ≡ 0) → added add n f ≡ 0
  added_nought zero f h = refl
  added_nought (suc n) f h = ap₂ add (added_nought n f (λ i l. h i (omega arith))) (h n (omega arith)) ∙ r.add-zero 0 (zero_in r)

  -- nothing but one of them
  pub added-one : (n : ℕ) (f : ℕ → ℕ) (k : ℕ) → k < n → f k < q → ((i : ℕ) → i < n → i ≢ k → f i ≡ 0) → added add n f ≡ f k
  added-one zero f k l h other = absurd (omega arith)
  added-one (suc n) f k l h other =
      elim (cases_eq k n) [
        | inl e ↦ ap₂ add (added_nought n f (λ i j. other i (omega arith) (λ z. omega arith))) (ap f (sym e)) ∙ zero-add r (f k) h
        | inr ne ↦
            ap₂ add (added-one n f k (omega arith) h (λ i j. other i (omega arith))) (other n (omega arith) (λ z. ne (sym z)))
            ∙ r.add-zero (f k) h
      ]

  pub added-add : (n : ℕ) (f g : ℕ → ℕ) → ((i : ℕ) → i < n → f i < q) → ((i : ℕ) → i < n → g i < q)
      → added add n (λ i. add (f i) (g i)) ≡ add (added add n f) (added add n g)
  added-add zero f g F G = sym (r.add-zero 0 (zero_in r))
  added-add (suc n) f g F G =
      let F' : (i : ℕ) → i < n → f i < q = λ i l. F i (omega arith) in
      let G' : (i : ℕ) → i < n → g i < q = λ i l. G i (omega arith) in
      ap (λ x. add x (add (f n) (g n))) (added-add n f g F' G')
      ∙ shuffle r (added add n f) (added add n g) (f n) (g n) (added_closed n f F') (added_closed n g G') (F n (omega arith)) (G n (omega arith))

  pub added-mul : (c n : ℕ) (f : ℕ → ℕ) → c < q → ((i : ℕ) → i < n → f i < q) → added add n (λ i. mul c (f i)) ≡ mul c (added add n f)
  added-mul c zero f h F = sym (mul-zero r c h)
  added-mul c (suc n) f h F =
      let F' : (i : ℕ) → i < n → f i < q = λ i l. F i (omega arith) in
      ap (λ x. add x (mul c (f n))) (added-mul c n f h F')
      ∙ sym (r.mul-add c (added add n f) (f n) h (added_closed n f F') (F n (omega arith)))

  -- of equal sums that agree in all places but one, that one agrees
  pub added_told : (n : ℕ) (f g : ℕ → ℕ) (k : ℕ) → k < n → ((i : ℕ) → i < n → f i < q) → ((i : ℕ) → i < n → g i < q)
      → ((i : ℕ) → i < n → i ≢ k → f i ≡ g i) → added add n f ≡ added add n g → f k ≡ g k
  added_told zero f g k l F G same e = absurd (omega arith)
  added_told (suc n) f g k l F G same e =
      let F' : (i : ℕ) → i < n → f i < q = λ i l. F i (omega arith) in
      let G' : (i : ℕ) → i < n → g i < q = λ i l. G i (omega arith) in
      let fn : f n < q = F n (omega arith) in
      let gn : g n < q = G n (omega arith) in
      elim (cases_eq k n) [
        | inl z ↦
            let front : added add n f ≡ added add n g = added_same add n f g (λ i j. same i (omega arith) (λ y. omega arith)) in
            ap f z
            ∙ cancel_left r (added add n f) (f n) (g n) (added_closed n f F') fn gn (e ∙ ap (λ x. add x (g n)) (sym front))
            ∙ ap g (sym z)
        | inr ne ↦
            let last : f n ≡ g n = same n (omega arith) (λ z. ne (sym z)) in
            added_told n f g k (omega arith) F' G' (λ i j. same i (omega arith))
            (cancel_right r (g n) (added add n f) (added add n g) gn (added_closed n f F') (added_closed n g G') (ap (add (added add n f)) (sym last) ∙ e))
      ]
