-- A row whose cells carry weights, and the row cut at each weight: some cut costs no more than the average. Assumes nothing.
use Rattle.std.proofs.Common.{◌≡◌, ℕ, zero, suc, ◌+◌, ◌-◌, ◌*◌, ◌<◌, ◌≤◌, cond, leb, ◌≢◌, List, length, get_or, ap, ◌∙◌, inl, inr, mul-le-mul_left, arith}
use Rattle.std.proofs.lemmas.Bool.{cases_lt, le-leb, lt-leb, cond-true, cond-false}
use Rattle.std.proofs.lemmas.Bool.Decides.{nat_tests}
use Rattle.alphabet.specs.Sums.{sum}
use Rattle.code.specs.Cells.{blank, cost, differing}
use Rattle.code.specs.Codes.{Codebook, Apart}
use Rattle.algebra.specs.Weights.{cut, heavy, heft}
use Rattle.alphabet.proofs.Sums.{sum_same, sum-le, sum-add, sum_times, sum_constant, sum_swap, sum_parts}
use Rattle.code.specs.Cells.{price}
use Rattle.code.proofs.Costs.{unlike, cost-listed}

-- one of n numbers is below their average
pub below_average : (n m : ℕ) (f : ℕ → ℕ) → sum n f < n * m → (i : ℕ) × (i < n) × (f i < m)
below_average zero m f h = absurd (omega arith)
below_average (suc n) m f h =
    elim (cases_lt (f n) m) [
      | inl l ↦ (n, omega arith, l)
      | inr g ↦ let r = below_average n m f (omega arith) in (r.0, omega (arith, r.1), r.2)
    ]

-- 1 up to w, and p from there on
pub sum_step : (w k p : ℕ) → sum (w + k) (λ t. cond (leb (suc t) w) 1 p) ≡ w + k * p
sum_step w k p =
    let f : ℕ → ℕ = λ t. cond (leb (suc t) w) 1 p in
    let lo : sum w f ≡ w * 1 = sum_same w f (λ t. 1) (λ t l. cond-true (leb (suc t) w) 1 p (le-leb (suc t) w l)) ∙ sum_constant w 1 in
    let hi : sum k (λ i. f (w + i)) ≡ k * p = sum_same k _ (λ t. p) (λ t l. cond-false (leb (suc (w + t)) w) 1 p (lt-leb (suc (w + t)) w (omega arith))) ∙ sum_constant k p in
    omega (arith, sum_parts w k f, lo, hi)

-- a cut cell's price, by cases of the cut
pub price-cut : (w x b t : ℕ) → price (cond (leb t w) blank x) b ≡ cond (leb t w) 1 (price x b)
unfolding price
price-cut w x b t = grind (arith, nat_tests)

finish : (d w x b : ℕ) → w ≤ d → (w < d → x ≢ blank) → w + (d - w) * price x b ≡ heavy d w x b
unfolding price
finish d w x b h ok = grind (arith, nat_tests)

pub average_cell : (d w x b : ℕ) → w ≤ d → (w < d → x ≢ blank) → sum d (λ t. price (cond (leb (suc t) w) blank x) b) ≡ heavy d w x b
average_cell d w x b h ok =
    let e : d ≡ w + (d - w) = omega arith in
    sum_same d _ _ (λ t l. price-cut w x b (suc t)) ∙ ap (λ k. sum k (λ t. cond (leb (suc t) w) 1 (price x b))) e ∙ sum_step w (d - w) (price x b) ∙ finish d w x b h ok

module _ (n d : ℕ) (w : ℕ → ℕ) (x : List ℕ) (low : (j : ℕ) → j < n → w j ≤ d) (ok : (j : ℕ) → j < n → w j < d → get_or x j 0 ≢ blank) where
  pub average : (b : List ℕ) → sum d (λ t. cost (cut n w x (suc t)) b) ≡ heft n d w x b
  average b =
      sum_same d _ _ (λ t l. cost-listed n (λ j. cond (leb (suc t) (w j)) blank (get_or x j 0)) b)
      ∙ sum_swap d n (λ t j. price (cond (leb (suc t) (w j)) blank (get_or x j 0)) (get_or b j 0))
      ∙ sum_same n _ _ (λ j l. average_cell d (w j) (get_or x j 0) (get_or b j 0) (low j l) (ok j l))

  pub some_cut : (b : List ℕ) (m : ℕ) → heft n d w x b < d * m → (t : ℕ) × (1 ≤ t) × (t ≤ d) × (cost (cut n w x t) b < m)
  some_cut b m h =
      let r = below_average d m (λ t. cost (cut n w x (suc t)) b) (omega (arith, average b)) in
      (suc r.0, omega arith, omega (arith, r.1), r.2)

-- ---- one passes: of two different symbols, each place weighs 2 d at least
pub two-heavy : (d w x u v : ℕ) → w ≤ d → 2 * d * unlike u v ≤ heavy d w x u + heavy d w x v
unfolding unlike
two-heavy d w x u v h = grind (arith, nat_tests)

pub two_hefts : (n d : ℕ) (w : ℕ → ℕ) (x u v : List ℕ) → length u ≡ n → ((j : ℕ) → j < n → w j ≤ d) → 2 * d * differing u v ≤ heft n d w x u + heft n d w x v
unfolding unlike
two_hefts n d w x u v e low =
    let U : ℕ → ℕ = λ j. heavy d (w j) (get_or x j 0) (get_or u j 0) in
    let V : ℕ → ℕ = λ j. heavy d (w j) (get_or x j 0) (get_or v j 0) in
    let D : ℕ → ℕ = λ j. unlike (get_or u j 0) (get_or v j 0) in
    let le : sum n (λ j. 2 * d * D j) ≤ sum n (λ j. U j + V j) = sum-le n _ _ (λ j l. two-heavy d (w j) (get_or x j 0) (get_or u j 0) (get_or v j 0) (low j l)) in
    let same : 2 * d * differing u v ≡ 2 * d * sum n D = ap (λ k. 2 * d * sum k D) e in
    omega (arith, same, sum_times n (2 * d) D, le, sum-add n U V)

pub one_passes : (s : Codebook) → Apart s → (d : ℕ) (w : ℕ → ℕ) (x u v : List ℕ) → ((j : ℕ) → j < s.n → w j ≤ d) → s.Word u → s.Word v → u ≢ v → heft s.n d w x u < d * s.d → d * s.d ≤ heft s.n d w x v
one_passes s a d w x u v low p q ne h =
    omega (arith, two_hefts s.n d w x u v (a.sized u p) low, mul-le-mul_left (2 * d) (a.apart u v p q ne))
