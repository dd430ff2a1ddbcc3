-- What a received row costs against words: two different words cannot both be cheap, so one within reach is the only one. Assumes nothing.
use Rattle.std.proofs.Common.{◌≡◌, ℕ, ◌+◌, ◌*◌, ◌<◌, ◌≤◌, cond, eqb, ◌≢◌, List, length, get_or, sym, ap, ◌∙◌, ap₂, inl, inr, arith}
use Rattle.std.proofs.lemmas.Bool.{cases_lt}
use Rattle.std.proofs.lemmas.Bool.Decides.{nat_tests}
use Rattle.code.specs.declared.cells.Counts.{Counts}
use Rattle.code.specs.Cells.{listed, wrong, faint, wrongs, blanks, cost, price, differing}
use Rattle.alphabet.specs.Sums.{sum}
use Rattle.code.specs.Codes.{Codebook, Apart}
use Rattle.code.specs.Calls.{Within, Beyond}
use Rattle.alphabet.proofs.Sums.{sum_same, sum-le, sum-add, sum_times}
use Rattle.code.proofs.Rows.{length-listed, get_or-listed}

-- 1 where two symbols differ
unfoldable pub unlike : ℕ → ℕ → ℕ
unlike a b = cond (eqb a b) 0 1

pub unlike-one : (x y : ℕ) → x ≢ y → 1 ≤ cond (eqb x y) 0 1
unlike-one x y ne = grind (arith, nat_tests)

price_is : (r w : ℕ) → 2 * wrong r w + faint r ≡ price r w
unfolding price
price_is r w = grind (arith, nat_tests)

pub cost_is : (r w : List ℕ) → cost r w ≡ sum (length r) (λ i. price (get_or r i 0) (get_or w i 0))
cost_is r w =
    ap (λ x. x + blanks r) (sym (sum_times (length r) 2 (λ i. wrong (get_or r i 0) (get_or w i 0))))
    ∙ sym (sum-add (length r) (λ i. 2 * wrong (get_or r i 0) (get_or w i 0)) (λ i. faint (get_or r i 0)))
    ∙ sum_same (length r) _ _ (λ i l. price_is (get_or r i 0) (get_or w i 0))

-- two symbols that differ cost together 2 at least, whatever was read: one place
two_prices : (r u v : ℕ) → 2 * unlike u v ≤ price r u + price r v
unfolding price unlike
two_prices r u v = grind (arith, nat_tests)

pub two_costs : (r u v : List ℕ) → length u ≡ length r → 2 * differing u v ≤ cost r u + cost r v
unfolding unlike
two_costs r u v e =
    let n = length r in
    let U : ℕ → ℕ = λ i. price (get_or r i 0) (get_or u i 0) in
    let V : ℕ → ℕ = λ i. price (get_or r i 0) (get_or v i 0) in
    let D : ℕ → ℕ = λ i. unlike (get_or u i 0) (get_or v i 0) in
    let le : sum n (λ i. 2 * D i) ≤ sum n (λ i. U i + V i) = sum-le n _ _ (λ i l. two_prices (get_or r i 0) (get_or u i 0) (get_or v i 0)) in
    omega (arith, ap (λ k. sum k D) e, sum_times n 2 D, le, sum-add n U V, cost_is r u, cost_is r v)

-- rows that are given by their places
pub cost-listed : (n : ℕ) (f : ℕ → ℕ) (b : List ℕ) → cost (listed n f) b ≡ sum n (λ j. price (f j) (get_or b j 0))
cost-listed n f b =
    cost_is (listed n f) b
    ∙ ap (λ k. sum k (λ j. price (get_or (listed n f) j 0) (get_or b j 0))) (length-listed n f)
    ∙ sum_same n _ _ (λ j l. ap (λ x. price x (get_or b j 0)) (get_or-listed n f j l))

pub differing-listed : (n : ℕ) (f g : ℕ → ℕ) → differing (listed n f) (listed n g) ≡ sum n (λ i. unlike (f i) (g i))
unfolding unlike
differing-listed n f g =
    ap (λ k. sum k (λ i. unlike (get_or (listed n f) i 0) (get_or (listed n g) i 0))) (length-listed n f)
    ∙ sum_same n _ _ (λ i l. ap₂ unlike (get_or-listed n f i l) (get_or-listed n g i l))

-- ---- one word in reach: where one word costs less than d, every other costs more
module _ (b : Codebook) (a : Apart b) (r : List ℕ) (e : length r ≡ b.n) where
  pub far : (u v : List ℕ) → b.Word u → b.Word v → u ≢ v → 2 * b.d ≤ cost r u + cost r v
  far u v p q ne = omega (arith, two_costs r u v (a.sized u p ∙ sym e), a.apart u v p q ne)

  pub one_in_reach : (u v : List ℕ) → b.Word u → b.Word v → u ≢ v → cost r u < b.d → b.d < cost r v
  one_in_reach u v p q ne h = omega (arith, far u v p q ne)

  -- a word at cost exactly d leaves nothing within reach
  pub at_reach : (u : List ℕ) → b.Word u → cost r u ≡ b.d → Beyond b r
  at_reach u p h v q =
      elim (cases_lt (cost r v) b.d) [
        | inl l ↦ absurd (let ne : u ≢ v = λ z. omega (arith, ap (cost r) z) in omega (arith, far u v p q ne))
        | inr g ↦ g
      ]

  pub within : (w : List ℕ) (c : Counts) → b.Word w → c.wrong ≡ wrongs r w → c.blank ≡ blanks r → 2 * c.wrong + c.blank < b.d → Within b r w c
  within w c p wrong-is blank-is cheap =
      let reach : cost r w < b.d = omega arith in
      record { word = p; reach = reach; wrong = wrong-is; blank = blank-is; others = λ v q ne. one_in_reach w v p q (λ z. ne (sym z)) reach }
