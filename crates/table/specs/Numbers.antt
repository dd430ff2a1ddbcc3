-- The numbers of messages, and the least of some numbers. Assumes nothing.
use Rattle.std.specs.Prelude.{◌≡◌, ℕ, zero, suc, ◌+◌, ◌-◌, ◌*◌, ◌/◌, ◌%◌, ◌^◌, ◌<◌, ◌≤◌, min, Bool, true, ◌&&◌, T, leb, ◌≢◌, ◌⊎◌, nat_le, refl}
use Rattle.std.proofs.Common.{sym, ap, ap₂, ◌∙◌, inl, inr, ⊎_elim, suc-le-suc, zero-mul, one-mul, add-mul, mul_assoc, mul_comm, pow-suc, mul-le-mul, mul-le-mul_left, mul-le-mul_right, not-suc-le-zero, le_of_suc-le-suc, arith, add-one, leb→le}
use Rattle.std.proofs.Math.Nat.{pow-zero}
use Rattle.std.proofs.lemmas.Nat.{div-mul-add, mod-mul-add, mod_below, div_below, div-add-mod'}
use Rattle.std.proofs.lemmas.Bool.{cases_eq, cases_lt, cond-true, cond-false, le-leb, lt-leb, leb-true, and_parts}
use Rattle.table.specs.Tables.{over, digit, number, lowest, capped, tabulable}

-- ---- digits
over_next : (q t i : ℕ) → over q (t / q) i ≡ over q t (suc i)
over_next q t zero = refl
over_next q t (suc i) = ap (λ y. y / q) (over_next q t i)

pub digit_of : (q k : ℕ) (x : ℕ → ℕ) → ((i : ℕ) → i < k → x i < q) → (i : ℕ) → i < k → digit q (number q k x) i ≡ x i
digit_of q zero x low i h = absurd (not-suc-le-zero h)
digit_of q (suc k) x low zero h = mod-mul-add (number q k (λ i. x (suc i))) q (x 0) (low 0 h)
digit_of q (suc k) x low (suc i) h =
    let first : x 0 < q = low 0 (omega arith) in
    ap (λ y. y % q) (sym (over_next q (number q (suc k) x) i) ∙ ap (λ t. over q t i) (div-mul-add (number q k (λ i. x (suc i))) q (x 0) first))
    ∙ digit_of q k (λ i. x (suc i)) (λ j l. low (suc j) (suc-le-suc l)) i (le_of_suc-le-suc h)

pub number_below : (q k : ℕ) (x : ℕ → ℕ) → ((i : ℕ) → i < k → x i < q) → number q k x < q ^ k
number_below q zero x low = omega (arith, pow-zero q)
number_below q (suc k) x low =
    let first : x 0 < q = low 0 (omega arith) in
    let rest : number q k (λ i. x (suc i)) + 1 ≤ q ^ k = omega (arith, number_below q k (λ i. x (suc i)) (λ j l. low (suc j) (suc-le-suc l))) in
    omega (arith, pow-suc q k, mul-le-mul_right q rest)

pub number_positive : (q k : ℕ) (x : ℕ → ℕ) → 0 < q → (i : ℕ) → i < k → x i ≢ 0 → 1 ≤ number q k x
number_positive q zero x z i h ne = absurd (not-suc-le-zero h)
number_positive q (suc k) x z zero h ne = omega arith
number_positive q (suc k) x z (suc i) h ne =
    let rest : 1 ≤ number q k (λ i. x (suc i)) = number_positive q k (λ i. x (suc i)) z i (le_of_suc-le-suc h) ne in
    omega (arith, mul-le-mul_right q rest)

pub digit_low : (q t i : ℕ) → 0 < q → digit q t i < q
digit_low q t i z = mod_below (over q t i) q z

pub number_same : (q k : ℕ) (x y : ℕ → ℕ) → ((i : ℕ) → i < k → x i ≡ y i) → number q k x ≡ number q k y
number_same q zero x y h = refl
number_same q (suc k) x y h =
    ap₂ (λ a b. a * q + b) (number_same q k (λ i. x (suc i)) (λ i. y (suc i)) (λ i l. h (suc i) (suc-le-suc l))) (h 0 (omega arith))

pub number_nought : (q k : ℕ) → number q k (λ i. 0) ≡ 0
number_nought q zero = refl
number_nought q (suc k) = ap (λ a. a * q + 0) (number_nought q k) ∙ omega (arith, zero-mul q)

-- two messages that differ at i alone
pub number_moved : (q k : ℕ) (x y : ℕ → ℕ) (i : ℕ) → i < k → ((j : ℕ) → j < k → j ≢ i → y j ≡ x j)
    → number q k y + x i * q ^ i ≡ number q k x + y i * q ^ i
number_moved q zero x y i h same = absurd (not-suc-le-zero h)
number_moved q (suc k) x y zero h same =
    let rest = number_same q k (λ j. y (suc j)) (λ j. x (suc j)) (λ j l. same (suc j) (suc-le-suc l) (λ e. omega arith)) in
    omega (arith, ap (λ z. z * q) rest, ap (λ p. x 0 * p) (pow-zero q), ap (λ p. y 0 * p) (pow-zero q))
number_moved q (suc k) x y (suc i) h same =
    let rest = number_moved q k (λ j. x (suc j)) (λ j. y (suc j)) i (le_of_suc-le-suc h) (λ j l ne. same (suc j) (suc-le-suc l) (λ e. ne (omega arith))) in
    let first : y 0 ≡ x 0 = same 0 (omega arith) (λ e. omega arith) in
    let p : ℕ = q ^ i in
    let X : ℕ = number q k (λ j. x (suc j)) in
    let Y : ℕ = number q k (λ j. y (suc j)) in
    let times : (a b : ℕ) → (a + b * p) * q ≡ a * q + b * (p * q) = λ a b. add-mul a (b * p) q ∙ ap (λ z. a * q + z) (mul_assoc b p q) in
    omega (arith, first, times Y (x (suc i)), times X (y (suc i)), ap (λ z. z * q) rest, ap (λ z. x (suc i) * z) (pow-suc q i), ap (λ z. y (suc i) * z) (pow-suc q i))

-- one more at i, and a carry from i
pub number_next : (q k : ℕ) (x y : ℕ → ℕ) (i : ℕ) → i < k → ((j : ℕ) → j < k → j ≢ i → y j ≡ x j) → y i ≡ x i + 1
    → number q k y ≡ number q k x + q ^ i
number_next q k x y i h same e =
    omega (arith, number_moved q k x y i h same, ap (λ z. z * q ^ i) e, add-mul (x i) 1 (q ^ i), one-mul (q ^ i))

pub number_wrap : (q k : ℕ) (x y : ℕ → ℕ) (i : ℕ) → i < k → ((j : ℕ) → j < k → j ≢ i → y j ≡ x j) → y i ≡ 0 → x i + 1 ≡ q
    → number q k y + q ^ (i + 1) ≡ number q k x + q ^ i
number_wrap q k x y i h same e full =
    let p : ℕ = q ^ i in
    let up : q ^ (i + 1) ≡ x i * p + p =
    ap (λ j. q ^ j) (add-one i) ∙ pow-suc q i ∙ mul_comm p q ∙ ap (λ z. z * p) (sym full) ∙ add-mul (x i) 1 p ∙ ap (λ z. x i * p + z) (one-mul p) in
    omega (arith, number_moved q k x y i h same, ap (λ z. z * p) e, zero-mul p, up)

-- a number is told by its digits
pub number_digits : (q k t : ℕ) → 0 < q → t < q ^ k → number q k (digit q t) ≡ t
number_digits q zero t z h = omega (arith, pow-zero q)
number_digits q (suc k) t z h =
    let less : t / q < q ^ k = div_below t q (q ^ k) z (omega (arith, pow-suc q k)) in
    ap (λ a. a * q + t % q) (number_same q k (λ i. digit q t (suc i)) (digit q (t / q)) (λ i l. ap (λ y. y % q) (sym (over_next q t i))) ∙ number_digits q k (t / q) z less)
    ∙ div-add-mod' t q

-- ---- the least of some numbers
either_min : (a b : ℕ) → (min a b ≡ a) ⊎ (min a b ≡ b)
either_min a b = ⊎_elim (λ l. inr (omega arith)) (λ g. inl (omega arith)) (cases_lt b a)

pub lowest_start : (b : ℕ) (f : ℕ → ℕ) (n : ℕ) → lowest b f n ≤ b
lowest_start b f zero = omega arith
lowest_start b f (suc n) = omega (arith, lowest_start b f n)

pub lowest_le : (b : ℕ) (f : ℕ → ℕ) (n i : ℕ) → i < n → lowest b f n ≤ f i
lowest_le b f zero i h = absurd (not-suc-le-zero h)
lowest_le b f (suc n) i h =
    ⊎_elim
    (λ e. omega (arith, ap f e))
    (λ ne. let l : i < n = omega arith in omega (arith, lowest_le b f n i l))
    (cases_eq i n)

-- one of the numbers is the least, where none is above b
pub record Reached (b : ℕ) (f : ℕ → ℕ) (n : ℕ) : Type 0 where
  pub at : ℕ
  pub inside : at < n
  pub same : f at ≡ lowest b f n

pub lowest_reached : (b : ℕ) (f : ℕ → ℕ) (n : ℕ) → ((i : ℕ) → f i ≤ b) → Reached b f (suc n)
lowest_reached b f zero low = record { at = 0; inside = omega arith; same = omega (arith, low 0) }
lowest_reached b f (suc n) low =
    let r = lowest_reached b f n low in
    ⊎_elim
    (λ e. record { at = r.at; inside = omega (arith, r.inside); same = r.same ∙ sym e })
    (λ e. record { at = suc n; inside = omega arith; same = sym e })
    (either_min (lowest b f (suc n)) (f (suc n)))

pub lowest_positive : (b : ℕ) (f : ℕ → ℕ) (n : ℕ) → 1 ≤ b → ((i : ℕ) → i < n → 1 ≤ f i) → 1 ≤ lowest b f n
lowest_positive b f zero h low = h
lowest_positive b f (suc n) h low =
    let rest : 1 ≤ lowest b f n = lowest_positive b f n h (λ i l. low i (omega arith)) in
    let here : 1 ≤ f n = low n (omega arith) in
    ⊎_elim (λ e. omega arith) (λ e. omega arith) (either_min (lowest b f n) (f n))

pub lowest_more : (b : ℕ) (f : ℕ → ℕ) (t best w : ℕ) → 1 ≤ t → best ≡ lowest b f (t - 1) → w ≡ f (t - 1) → min best w ≡ lowest b f (t + 1 - 1)
lowest_more b f t best w h e ew =
    let n : suc (t - 1) ≡ t + 1 - 1 = omega arith in
    ap₂ min e ew ∙ ap (lowest b f) n

-- ---- powers
pub pow_some : (q j : ℕ) → 1 ≤ q → 1 ≤ q ^ j
pow_some q zero h = omega (arith, pow-zero q)
pow_some q (suc j) h = omega (arith, pow-suc q j, mul-le-mul_right q (pow_some q j h))

pow_further : (q a d : ℕ) → 1 ≤ q → q ^ a ≤ q ^ (a + d)
pow_further q a zero h = let e : a + 0 ≡ a = omega arith in omega (arith, ap (λ j. q ^ j) e)
pow_further q a (suc d) h =
    let e : a + suc d ≡ suc (a + d) = omega arith in
    omega (arith, ap (λ j. q ^ j) e, pow-suc q (a + d), mul-le-mul_left (q ^ (a + d)) h, pow_further q a d h)

pub pow_up : (q a b : ℕ) → 1 ≤ q → a ≤ b → q ^ a ≤ q ^ b
pow_up q a b h l = let e : a + (b - a) ≡ b = omega arith in omega (arith, ap (λ j. q ^ j) e, pow_further q a (b - a) h)

pub pow_more : (q p i n : ℕ) → n ≡ q ^ i → p ≡ q → n * p ≡ q ^ (i + 1)
pow_more q p i n e ep = ap₂ (λ a b. a * b) e ep ∙ sym (pow-suc q i) ∙ ap (λ j. q ^ j) (sym (add-one i))

pub capped_is : (q k : ℕ) → q ^ k ≤ 65536 → capped q k ≡ q ^ k
capped_is q k h = cond-true (nat_le (q ^ k) 65536) _ _ (le-leb (q ^ k) 65536 h)

pub capped_past : (q k : ℕ) → 65536 < q ^ k → capped q k ≡ 65537
capped_past q k h = cond-false (nat_le (q ^ k) 65536) _ _ (lt-leb (q ^ k) 65536 h)

pub capped_fits : (q k r : ℕ) → r ≡ capped q k → T (nat_le r 65536) → q ^ k ≤ 65536
capped_fits q k r e t = ⊎_elim (λ l. omega (arith, leb→le r 65536 t, e, capped_past q k l)) (λ g. g) (cases_lt 65536 (q ^ k))

pub capped_leb : (q k r : ℕ) → r ≡ capped q k → nat_le r 65536 ≡ nat_le (q ^ k) 65536
capped_leb q k r e =
    ⊎_elim
    (λ l. ap (λ x. leb x 65536) (e ∙ capped_past q k l) ∙ sym (lt-leb (q ^ k) 65536 l))
    (λ g. ap (λ x. leb x 65536) (e ∙ capped_is q k g))
    (cases_lt 65536 (q ^ k))

pub limits_leb : (k m : ℕ) (b : Bool) → 1 ≤ k → k ≤ 8 → 1 ≤ m → m ≤ 16 → b ≡ ((nat_le 1 k && nat_le k 8) && ((nat_le 1 m && nat_le m 16) && b))
limits_leb k m b h1 h2 h3 h4 = rw (le-leb 1 k h1, le-leb k 8 h2, le-leb 1 m h3, le-leb m 16 h4)

pub at_least_one : (q k m : ℕ) → tabulable q k m ≡ true → 1 ≤ k
at_least_one q k m e = leb-true 1 k (and_parts (nat_le 1 k) (nat_le k 8) (and_parts (nat_le 1 k && nat_le k 8) ((nat_le 1 m && nat_le m 16) && nat_le (q ^ k) 65536) e).0).0

pub small_table : (k m : ℕ) → k ≤ 8 → m ≤ 16 → k * m ≤ 128
small_table k m h l = omega (arith, mul-le-mul h l)
