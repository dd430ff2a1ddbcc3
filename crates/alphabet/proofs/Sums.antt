-- Sums of numbers: place by place, and over the rows and columns of a grid. Assumes nothing.
use Rattle.std.proofs.Common.{◌≡◌, ℕ, zero, suc, ◌+◌, ◌*◌, ◌<◌, ◌≤◌, ◌≢◌, sym, refl, ap, ◌∙◌, ap₂, inl, inr, add-le-add, suc-mul, zero-mul, add-one, arith}
use Rattle.std.proofs.lemmas.Bool.{cases_eq, cases_lt}
use Rattle.alphabet.specs.Sums.{sum}

pub sum_more : (n : ℕ) (f : ℕ → ℕ) → sum (n + 1) f ≡ sum n f + f n
sum_more n f = ap (λ m. sum m f) (add-one n)

pub sum_same : (n : ℕ) (f g : ℕ → ℕ) → ((i : ℕ) → i < n → f i ≡ g i) → sum n f ≡ sum n g
sum_same zero f g h = refl
sum_same (suc n) f g h = ap₂ (λ a b. a + b) (sum_same n f g (λ i l. h i (omega arith))) (h n (omega arith))

pub sum-le : (n : ℕ) (f g : ℕ → ℕ) → ((i : ℕ) → i < n → f i ≤ g i) → sum n f ≤ sum n g
sum-le zero f g h = omega arith
sum-le (suc n) f g h = add-le-add (sum-le n f g (λ i l. h i (omega arith))) (h n (omega arith))

pub sum-add : (n : ℕ) (f g : ℕ → ℕ) → sum n (λ i. f i + g i) ≡ sum n f + sum n g
sum-add zero f g = refl
sum-add (suc n) f g = omega (arith, sum-add n f g)

pub sum_constant : (n c : ℕ) → sum n (λ i. c) ≡ n * c
sum_constant zero c = sym (zero-mul c)
sum_constant (suc n) c = omega (arith, sum_constant n c)

pub sum_times : (n c : ℕ) (f : ℕ → ℕ) → sum n (λ i. c * f i) ≡ c * sum n f
sum_times zero c f = omega arith
sum_times (suc n) c f = omega (arith, sum_times n c f)

pub sum_ones : (n : ℕ) (f : ℕ → ℕ) → ((i : ℕ) → i < n → 1 ≤ f i) → n ≤ sum n f
sum_ones n f h = omega (arith, sum-le n (λ i. 1) f h, sum_constant n 1)

pub sum_swap : (n m : ℕ) (f : ℕ → ℕ → ℕ) → sum n (λ i. sum m (f i)) ≡ sum m (λ j. sum n (λ i. f i j))
sum_swap zero m f = sym (sum_constant m 0 ∙ omega arith)
sum_swap (suc n) m f =
    ap (λ x. x + sum m (f n)) (sum_swap n m f) ∙ sym (sum-add m (λ j. sum n (λ i. f i j)) (f n))

-- the first m places, and the n after them
pub sum_parts : (m n : ℕ) (f : ℕ → ℕ) → sum (m + n) f ≡ sum m f + sum n (λ i. f (m + i))
sum_parts m zero f = let e : m + zero ≡ m = omega arith in ap (λ k. sum k f) e ∙ omega arith
sum_parts m (suc n) f = let e : m + suc n ≡ suc (m + n) = omega arith in ap (λ k. sum k f) e ∙ omega (arith, sum_parts m n f)

pub sum_rows : (m n : ℕ) (f : ℕ → ℕ) → sum (m * n) f ≡ sum m (λ i. sum n (λ j. f (i * n + j)))
sum_rows zero n f = ap (λ k. sum k f) (zero-mul n)
sum_rows (suc m) n f = ap (λ k. sum k f) (suc-mul m n) ∙ omega (arith, sum_parts (m * n) n f, sum_rows m n f)

pub sum_columns : (m n : ℕ) (f : ℕ → ℕ) → sum (m * n) f ≡ sum n (λ j. sum m (λ i. f (i * n + j)))
sum_columns m n f = sum_rows m n f ∙ sum_swap m n (λ i j. f (i * n + j))

-- one place is at most the sum
pub one_place : (n : ℕ) (f : ℕ → ℕ) (i : ℕ) → i < n → f i ≤ sum n f
one_place zero f i h = omega arith
one_place (suc n) f i h =
    elim (cases_eq i n) [ inl e ↦ omega (arith, ap f e) | inr ne ↦ let l : i < n = omega arith in omega (arith, one_place n f i l) ]

pub two_places : (n : ℕ) (f : ℕ → ℕ) (i j : ℕ) → i < n → j < n → i ≢ j → 1 ≤ f i → 1 ≤ f j → 2 ≤ sum n f
two_places zero f i j h k ne x y = absurd (omega arith)
two_places (suc n) f i j h k ne x y =
    elim (cases_eq i n) [
      | inl e ↦ let l : j < n = elim (cases_lt j n) [ inl l ↦ l | inr g ↦ absurd (ne (omega arith)) ] in omega (arith, ap f e, one_place n f j l)
      | inr ie ↦
          elim (cases_eq j n) [
            | inl e ↦ let l : i < n = omega arith in omega (arith, ap f e, one_place n f i l)
            | inr je ↦ omega (arith, two_places n f i j (omega arith) (omega arith) ne x y)
          ]
    ]
