-- The words of a table show the laws of a code. Assumes nothing.
use Rattle.std.specs.Prelude.{◌≡◌, ℕ, zero, suc, ◌+◌, ◌-◌, ◌*◌, ◌^◌, ◌<◌, ◌≤◌, cond, ◌≢◌, ◌⊎◌, List, length, ◌==◌, nat_lt, slice_index, slice_index_or}
use Rattle.std.proofs.Common.{sym, ap₂, ◌∙◌, inl, inr, ⊎_elim, not-suc-le-zero, pow-suc, mul-le-mul_right}
use Rattle.std.proofs.Math.Path.{ap, subst}
use native.Mathlib.Omega.{arith}
use Rattle.std.proofs.lemmas.List.{ext_get_or, length-replicate, get_or-replicate}
use Rattle.std.proofs.lemmas.List.FromFn.{fill_by_all}
use Rattle.std.proofs.lemmas.Nat.{mod_below}
use Rattle.std.proofs.lemmas.Bool.{cases_eq, cases_lt, cond-true, cond-false, lt-ltb, le-ltb}
use Rattle.std.proofs.lemmas.Bool.Decides.{nat_tests}
use Rattle.alphabet.specs.Sums.{sum}
use Rattle.code.specs.Cells.{listed, differing}
use Rattle.alphabet.specs.Rings.{Ring}
use Rattle.code.specs.Codes.{Apart, Linear}
use Rattle.alphabet.proofs.Sums.{sum_same, one_place}
use Rattle.code.proofs.Rows.{length-listed, get_or-listed}
use Rattle.table.specs.Tables.{Generator, coefficient, check, Tabled, weight, Least, digit, letter, number, spelled, least, tables, front}
use Rattle.table.specs.Numbers.{digit_of, number_below, number_positive, digit_low, number_same, number_nought, number_digits, pow_some, lowest_le, Reached, lowest_reached}
use Rattle.alphabet.proofs.Symbols.{zero_in, cancel_right, mul-zero}
use Rattle.alphabet.proofs.Additions.{added_same, added_closed, added_nought, added-add, added-mul}

-- ---- weights
abbrev heavy : ℕ → ℕ
heavy x = cond (x == 0) 0 1

heavy-one : (x : ℕ) → heavy x ≤ 1
heavy-one x = grind (arith, nat_tests)

heavy_some : (x : ℕ) → x ≢ 0 → 1 ≤ heavy x
heavy_some x ne = grind (arith, nat_tests)

heavy_both : (x u v : ℕ) → (x ≡ 0 → u ≡ v) → (u ≡ v → x ≡ 0) → heavy x ≡ cond (u == v) 0 1
heavy_both x u v f g =
    ⊎_elim
    (λ e. let z : u ≡ v = f e in grind (arith, nat_tests))
    (λ ne. let w : u ≢ v = λ e. ne (g e) in grind (arith, nat_tests))
    (cases_eq x 0)

sum_few : (n : ℕ) (f : ℕ → ℕ) → ((i : ℕ) → f i ≤ 1) → sum n f ≤ n
sum_few zero f h = omega arith
sum_few (suc n) f h = omega (arith, h n, sum_few n f h)

pub weight_few : (w : List ℕ) → weight w ≤ length w
weight_few w = sum_few (length w) (λ i. heavy (slice_index w i)) (λ i. heavy-one (slice_index w i))

pub weight_some : (w : List ℕ) (i : ℕ) → i < length w → slice_index w i ≢ 0 → 1 ≤ weight w
weight_some w i h ne =
    let here : 1 ≤ heavy (slice_index w i) = heavy_some (slice_index w i) ne in
    omega (arith, one_place (length w) (λ i. heavy (slice_index w i)) i h)

-- ---- where two rows differ
pub record Unlike (n : ℕ) (f g : ℕ → ℕ) : Type 0 where
  pub at : ℕ
  pub inside : at < n
  pub other : f at ≢ g at

pub alike_or_not : (n : ℕ) (f g : ℕ → ℕ) → ((i : ℕ) → i < n → f i ≡ g i) ⊎ Unlike n f g
alike_or_not zero f g = inl (λ i h. absurd (not-suc-le-zero h))
alike_or_not (suc n) f g =
    ⊎_elim
    (λ e. ⊎_elim
    (λ same. inl (λ i h. ⊎_elim (λ z. ap f z ∙ e ∙ ap g (sym z)) (λ ne. same i (omega arith)) (cases_eq i n)))
    (λ u. inr (record { at = u.at; inside = omega (arith, u.inside); other = u.other }))
    (alike_or_not n f g))
    (λ ne. inr (record { at = n; inside = omega arith; other = ne }))
    (cases_eq (f n) (g n))

module _ (s : Generator) {neg : ℕ → ℕ} (r : Ring s.q s.add neg s.mul) where
  pub coefficient_low : (i j : ℕ) → coefficient s i j < s.q
  coefficient_low i j = mod_below (slice_index s.rows (i * s.m + j)) s.q (zero_in r)

  pub check_same : (x y : ℕ → ℕ) (j : ℕ) → ((i : ℕ) → i < s.k → x i ≡ y i) → check s x j ≡ check s y j
  check_same x y j h = added_same s.add s.k _ _ (λ i l. ap (λ z. s.mul z (coefficient s i j)) (h i l))

  pub check_low : (x : ℕ → ℕ) (j : ℕ) → ((i : ℕ) → i < s.k → x i < s.q) → check s x j < s.q
  check_low x j h = added_closed r s.k _ (λ i l. r.mul_closed (x i) (coefficient s i j) (h i l) (coefficient_low i j))

  front_low : (w : List ℕ) → Tabled s w → (i : ℕ) → i < s.k → slice_index w i < s.q
  front_low w h i l = h.symbols i (omega arith)

  -- a row of symbols is a word if its last symbols are its checks
  listed_tabled : (f : ℕ → ℕ) → ((i : ℕ) → i < s.k + s.m → f i < s.q) → ((j : ℕ) → j < s.m → f (s.k + j) ≡ check s f j) → Tabled s (listed (s.k + s.m) f)
  listed_tabled f low same = record {
    sized = length-listed (s.k + s.m) f;
    symbols = λ i h. subst (λ (x : ℕ). x < s.q) (sym (get_or-listed (s.k + s.m) f i h)) (low i h);
    checks = λ j h.
        get_or-listed (s.k + s.m) f (s.k + j) (omega arith) ∙ same j h
        ∙ check_same f (λ i. slice_index (listed (s.k + s.m) f) i) j (λ i l. sym (get_or-listed (s.k + s.m) f i (omega arith)));
  }

  -- ---- sums and multiples
  pub add-mul : (a b c : ℕ) → a < s.q → b < s.q → c < s.q → s.mul (s.add a b) c ≡ s.add (s.mul a c) (s.mul b c)
  add-mul a b c x y z =
      r.mul_comm (s.add a b) c (r.add_closed a b x y) z ∙ r.mul-add c a b z x y
      ∙ ap₂ s.add (r.mul_comm c a z x) (r.mul_comm c b z y)

  check-add : (x y : ℕ → ℕ) (j : ℕ) → ((i : ℕ) → i < s.k → x i < s.q) → ((i : ℕ) → i < s.k → y i < s.q)
      → check s (λ i. s.add (x i) (y i)) j ≡ s.add (check s x j) (check s y j)
  check-add x y j hx hy =
      added_same s.add s.k _ _ (λ i l. add-mul (x i) (y i) (coefficient s i j) (hx i l) (hy i l) (coefficient_low i j))
      ∙ added-add r s.k (λ i. s.mul (x i) (coefficient s i j)) (λ i. s.mul (y i) (coefficient s i j))
      (λ i l. r.mul_closed (x i) (coefficient s i j) (hx i l) (coefficient_low i j))
      (λ i l. r.mul_closed (y i) (coefficient s i j) (hy i l) (coefficient_low i j))

  check-mul : (a : ℕ) (x : ℕ → ℕ) (j : ℕ) → a < s.q → ((i : ℕ) → i < s.k → x i < s.q)
      → check s (λ i. s.mul a (x i)) j ≡ s.mul a (check s x j)
  check-mul a x j h hx =
      added_same s.add s.k _ _ (λ i l. r.mul_assoc a (x i) (coefficient s i j) h (hx i l) (coefficient_low i j))
      ∙ added-mul r a s.k (λ i. s.mul (x i) (coefficient s i j)) h (λ i l. r.mul_closed (x i) (coefficient s i j) (hx i l) (coefficient_low i j))

  pub tabled_sum : (u v : List ℕ) → Tabled s u → Tabled s v → Tabled s (listed (s.k + s.m) (λ i. s.add (slice_index u i) (slice_index v i)))
  tabled_sum u v hu hv =
      listed_tabled (λ i. s.add (slice_index u i) (slice_index v i))
      (λ i l. r.add_closed (slice_index u i) (slice_index v i) (hu.symbols i l) (hv.symbols i l))
      (λ j l. ap₂ s.add (hu.checks j l) (hv.checks j l)
      ∙ sym (check-add (λ i. slice_index u i) (λ i. slice_index v i) j (front_low u hu) (front_low v hv)))

  pub tabled_multiple : (a : ℕ) (u : List ℕ) → a < s.q → Tabled s u → Tabled s (listed (s.k + s.m) (λ i. s.mul a (slice_index u i)))
  tabled_multiple a u h hu =
      listed_tabled (λ i. s.mul a (slice_index u i))
      (λ i l. r.mul_closed a (slice_index u i) h (hu.symbols i l))
      (λ j l. ap (s.mul a) (hu.checks j l) ∙ sym (check-mul a (λ i. slice_index u i) j h (front_low u hu)))

  -- ---- the word of a message
  abbrev pub body : (ℕ → ℕ) → ℕ → ℕ
  body x j = cond (nat_lt j s.k) (x j) (check s x (j - s.k))

  body-front : (x : ℕ → ℕ) (i : ℕ) → i < s.k → body x i ≡ x i
  body-front x i h = cond-true (nat_lt i s.k) _ _ (lt-ltb i s.k h)

  body_back : (x : ℕ → ℕ) (j : ℕ) → body x (s.k + j) ≡ check s x j
  body_back x j =
      let past : s.k ≤ s.k + j = omega arith in
      let e : s.k + j - s.k ≡ j = omega arith in
      cond-false (nat_lt (s.k + j) s.k) _ _ (le-ltb (s.k + j) s.k past) ∙ ap (check s x) e

  body_low : (x : ℕ → ℕ) → ((i : ℕ) → i < s.k → x i < s.q) → (i : ℕ) → body x i < s.q
  body_low x h i =
      ⊎_elim
      (λ l. subst (λ (y : ℕ). y < s.q) (sym (body-front x i l)) (h i l))
      (λ g. let e : s.k + (i - s.k) ≡ i = omega arith in
      subst (λ (y : ℕ). body x y < s.q) e (subst (λ (y : ℕ). y < s.q) (sym (body_back x (i - s.k))) (check_low x (i - s.k) h)))
      (cases_lt i s.k)

  pub made_tabled : (x : ℕ → ℕ) → ((i : ℕ) → i < s.k → x i < s.q) → Tabled s (listed (s.k + s.m) (body x))
  made_tabled x h =
      listed_tabled (body x) (λ i l. body_low x h i)
      (λ j l. body_back x j ∙ check_same x (body x) j (λ i l. sym (body-front x i l)))

  -- what stands behind a message x once its checks are put there
  pub made_at : (x : ℕ → ℕ) (mid out : List ℕ) → ((i : ℕ) → i < s.k → slice_index mid i ≡ x i) → ((i : ℕ) → i < s.k → slice_index out i ≡ slice_index mid i)
      → ((j : ℕ) → j < s.m → slice_index out (s.k + j) ≡ check s (λ i. slice_index mid i) j) → (j : ℕ) → j < s.k + s.m → slice_index out j ≡ body x j
  made_at x mid out at front back j h =
      ⊎_elim
      (λ l. front j l ∙ at j l ∙ sym (body-front x j l))
      (λ g. let i : ℕ = j - s.k in
      let e : s.k + i ≡ j = omega arith in
      subst (λ (y : ℕ). slice_index out y ≡ body x y) e
      (back i (omega arith) ∙ check_same (λ i. slice_index mid i) x i at ∙ sym (body_back x i)))
      (cases_lt j s.k)

  -- cells that hold message x and its checks are a word
  pub made_word : (x : ℕ → ℕ) (out : List ℕ) → ((i : ℕ) → i < s.k → x i < s.q) → length out ≡ s.k + s.m → ((j : ℕ) → j < s.k + s.m → slice_index out j ≡ body x j) → Tabled s out
  made_word x out low e at = subst (Tabled s) (sym (fill_by_all (body x) out (s.k + s.m) 0 e at)) (made_tabled x low)

  -- a word is told by its message
  pub told : (u v : List ℕ) → Tabled s u → Tabled s v → ((i : ℕ) → i < s.k → slice_index u i ≡ slice_index v i) → u ≡ v
  told u v hu hv same =
      ext_get_or 0 u v (hu.sized ∙ sym hv.sized)
      (λ i l. ⊎_elim (same i)
      (λ g. let j : ℕ = i - s.k in
      let e : s.k + j ≡ i = omega arith in
      let jl : j < s.m = omega (arith, hu.sized) in
      subst (λ (y : ℕ). slice_index u y ≡ slice_index v y) e
      (hu.checks j jl ∙ check_same (λ i. slice_index u i) (λ i. slice_index v i) j same ∙ sym (hv.checks j jl)))
      (cases_lt i s.k))

  pub tables_linear : Linear (tables s) (front s.k) s.add s.mul
  tables_linear = record {
    few = omega arith;
    inside = λ i h. omega arith;
    distinct = λ i j hi hj e. e;
    nought = record {
      sized = length-replicate (s.k + s.m) 0;
      symbols = λ i h. subst (λ (x : ℕ). x < s.q) (sym (get_or-replicate (s.k + s.m) i 0 0 h)) (zero_in r);
      checks = λ j h.
          get_or-replicate (s.k + s.m) (s.k + j) 0 0 (omega arith)
          ∙ sym (added_nought r s.k _ (λ i l.
          let near : i < s.k + s.m = omega arith in
          ap (λ y. s.mul y (coefficient s i j)) (get_or-replicate (s.k + s.m) i 0 0 near)
          ∙ r.mul_comm 0 (coefficient s i j) (zero_in r) (coefficient_low i j) ∙ mul-zero r (coefficient s i j) (coefficient_low i j)));
    };
    sums = tabled_sum;
    multiples = tabled_multiple;
    carried = λ m h.
        let x : ℕ → ℕ = λ i. slice_index_or m i 0 in
        (listed (s.k + s.m) (body x), (made_tabled x h.symbols, λ i l. get_or-listed (s.k + s.m) (body x) i (omega arith) ∙ body-front x i l));
    once = λ m u v h hu hv cu cv. told u v hu hv (λ i l. cu i l ∙ sym (cv i l));
  }

  -- ---- numbered messages
  pub spelled_tabled : (t : ℕ) → Tabled s (spelled s t)
  spelled_tabled t = made_tabled (digit s.q t) (λ i l. digit_low s.q t i (zero_in r))

  pub spelled-front : (t i : ℕ) → i < s.k → slice_index (spelled s t) i ≡ digit s.q t i
  spelled-front t i l = get_or-listed (s.k + s.m) (letter s t) i (omega arith) ∙ body-front (digit s.q t) i l

  abbrev pub number_of : List ℕ → ℕ
  number_of w = number s.q s.k (λ i. slice_index w i)

  pub spelled-number : (w : List ℕ) → Tabled s w → spelled s (number_of w) ≡ w
  spelled-number w h =
      told (spelled s (number_of w)) w (spelled_tabled (number_of w)) h
      (λ i l. spelled-front (number_of w) i l ∙ digit_of s.q s.k (λ i. slice_index w i) (front_low w h) i l)

  pub number_in : (w : List ℕ) → Tabled s w → number_of w < s.q ^ s.k
  number_in w h = number_below s.q s.k (λ i. slice_index w i) (front_low w h)

  -- what holds of each numbered word holds of each word
  pub each_word : (P : List ℕ → Type 0) → ((t : ℕ) → t < s.q ^ s.k → P (spelled s t)) → (w : List ℕ) → Tabled s w → P w
  each_word P all w h = subst P (spelled-number w h) (all (number_of w) (number_in w h))

  -- ---- the least weight
  abbrev weights : ℕ → ℕ
  weights t = weight (spelled s (t + 1))

  pub least_below : (w : List ℕ) → Tabled s w → (i : ℕ) → i < s.k → slice_index w i ≢ 0 → least s ≤ weight w
  unfolding least
  least_below w h i l ne =
      let t : ℕ = number_of w in
      let pos : 1 ≤ t = number_positive s.q s.k (λ i. slice_index w i) (zero_in r) i l ne in
      let inn : t < s.q ^ s.k = number_in w h in
      let e : t - 1 + 1 ≡ t = omega arith in
      let near : t - 1 < s.q ^ s.k - 1 = omega arith in
      subst (λ (x : ℕ). least s ≤ x) (ap (λ y. weight (spelled s y)) e ∙ ap weight (spelled-number w h))
      (lowest_le (s.k + s.m) weights (s.q ^ s.k - 1) (t - 1) near)

  -- symbol i of message t + 1 is not 0 for some i
  stirred : (t : ℕ) → t + 1 < s.q ^ s.k → Unlike s.k (digit s.q (t + 1)) (λ i. 0)
  stirred t h =
      ⊎_elim
      (λ same. absurd (omega (arith, number_digits s.q s.k (t + 1) (zero_in r) h, number_same s.q s.k (digit s.q (t + 1)) (λ i. 0) same, number_nought s.q s.k)))
      (λ u. u) (alike_or_not s.k (digit s.q (t + 1)) (λ i. 0))

  weights_few : (t : ℕ) → weights t ≤ s.k + s.m
  weights_few t = omega (arith, weight_few (spelled s (t + 1)), length-listed (s.k + s.m) (letter s (t + 1)))

  two_messages : 1 ≤ s.k → 2 ≤ s.q ^ s.k
  two_messages h =
      let e : suc (s.k - 1) ≡ s.k = omega arith in
      let one : 1 ≤ s.q ^ (s.k - 1) = pow_some s.q (s.k - 1) (omega (arith, r.low)) in
      subst (λ (j : ℕ). 2 ≤ s.q ^ j) e (omega (arith, pow-suc s.q (s.k - 1), mul-le-mul_right s.q one, r.low))

  -- the number that is computed is the least weight
  pub least_is : 1 ≤ s.k → Least s (least s)
  unfolding least
  least_is h =
      let two : 2 ≤ s.q ^ s.k = two_messages h in
      let e : suc (s.q ^ s.k - 2) ≡ s.q ^ s.k - 1 = omega arith in
      let found : Reached (s.k + s.m) weights (s.q ^ s.k - 1) = subst (Reached (s.k + s.m) weights) e (lowest_reached (s.k + s.m) weights (s.q ^ s.k - 2) weights_few) in
      let u : Unlike s.k (digit s.q (found.at + 1)) (λ i. 0) = stirred found.at (omega (arith, found.inside)) in
      record {
        lightest = spelled s (found.at + 1);
        tabled = spelled_tabled (found.at + 1);
        place = u.at;
        inside = u.inside;
        nonzero = λ z. u.other (sym (spelled-front (found.at + 1) u.at u.inside) ∙ z);
        reached = found.same;
        below = least_below;
      }

  -- ---- the distance
  opposite : (v : ℕ) → v < s.q → s.add v (s.mul (neg 1) v) ≡ 0
  opposite v h =
      let one : 1 < s.q = omega (arith, r.low) in
      let minus : neg 1 < s.q = r.neg_closed 1 one in
      ap₂ s.add (sym (r.mul-one v h)) (r.mul_comm (neg 1) v minus h)
      ∙ sym (r.mul-add v 1 (neg 1) h one minus) ∙ ap (s.mul v) (r.add-neg 1 one) ∙ mul-zero r v h

  apart_zero : (u v : ℕ) → u < s.q → v < s.q → s.add u (s.mul (neg 1) v) ≡ 0 → u ≡ v
  apart_zero u v hu hv e =
      let minus : neg 1 < s.q = r.neg_closed 1 (omega (arith, r.low)) in
      cancel_right r (s.mul (neg 1) v) u v (r.mul_closed (neg 1) v minus hv) hu hv (e ∙ sym (opposite v hv))

  heavy_apart : (u v : ℕ) → u < s.q → v < s.q → heavy (s.add u (s.mul (neg 1) v)) ≡ cond (u == v) 0 1
  heavy_apart u v hu hv =
      let x : ℕ = s.add u (s.mul (neg 1) v) in
      let there : x ≡ 0 → u ≡ v = apart_zero u v hu hv in
      let back : u ≡ v → x ≡ 0 = λ e. ap (λ y. s.add y (s.mul (neg 1) v)) e ∙ opposite v hv in
      heavy_both x u v there back

  pub tables_apart : 1 ≤ s.k → Apart (tables s)
  tables_apart h =
      let l = least_is h in
      record {
        positive = omega (arith, l.reached, weight_some l.lightest l.place (omega (arith, l.inside, l.tabled.sized)) l.nonzero);
        short = omega (arith, l.reached, weight_few l.lightest, l.tabled.sized);
        sized = λ w t. t.sized;
        symbols = λ w t. t.symbols;
        apart = λ u v hu hv ne.
            let n : ℕ = s.k + s.m in
            let minus : neg 1 < s.q = r.neg_closed 1 (omega (arith, r.low)) in
            let V : List ℕ = listed n (λ i. s.mul (neg 1) (slice_index v i)) in
            let W : List ℕ = listed n (λ i. s.add (slice_index u i) (slice_index V i)) in
            let tabled : Tabled s W = tabled_sum u V hu (tabled_multiple (neg 1) v minus hv) in
            let at : (i : ℕ) → i < n → slice_index W i ≡ s.add (slice_index u i) (s.mul (neg 1) (slice_index v i)) =
            λ i b. get_or-listed n (λ i. s.add (slice_index u i) (slice_index V i)) i b ∙ ap (s.add (slice_index u i)) (get_or-listed n (λ i. s.mul (neg 1) (slice_index v i)) i b) in
            let other : Unlike s.k (λ i. slice_index u i) (λ i. slice_index v i) =
            ⊎_elim (λ same. absurd (ne (told u v hu hv same))) (λ x. x) (alike_or_not s.k (λ i. slice_index u i) (λ i. slice_index v i)) in
            let place : other.at < n = omega (arith, other.inside) in
            let weighs : weight W ≡ differing u v =
            ap (λ z. sum z (λ i. heavy (slice_index W i))) (length-listed n (λ i. s.add (slice_index u i) (slice_index V i)) ∙ sym hu.sized)
            ∙ sum_same (length u) (λ i. heavy (slice_index W i)) (λ i. cond (slice_index u i == slice_index v i) 0 1)
            (λ i b. let c : i < n = omega (arith, hu.sized) in
            ap heavy (at i c) ∙ heavy_apart (slice_index u i) (slice_index v i) (hu.symbols i c) (hv.symbols i c)) in
            subst (λ (x : ℕ). least s ≤ x) weighs
            (l.below W tabled other.at other.inside
            (λ z. other.other (apart_zero (slice_index u other.at) (slice_index v other.at) (hu.symbols other.at place) (hv.symbols other.at place) (sym (at other.at place) ∙ z))));
      }
