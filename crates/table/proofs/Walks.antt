-- A walk over message symbols and their rows, which adds up a check symbol. Assumes nothing.
use Rattle.std.proofs.Common.{mod-eq_of_lt, ap₂, add-one, ◌≡◌, ℕ, ◌+◌, ◌*◌, ◌%◌, ◌<◌, ◌≤◌, List, ◌∷◌, ◌++◌, length, get_or, drop, refl, sym, ap, ◌∙◌, arith, subst, ◌⊎◌, ⊎_elim, zero-mul, mul-le-mul_right}
use Rattle.std.proofs.lemmas.List.{get_or-drop, get_or_append_left, length-drop, drop-drop, drop_at}
use Rattle.std.proofs.lemmas.Bool.{cases_lt}
use Rattle.std.proofs.lemmas.Nat.{mod_below}
use Rattle.alphabet.specs.Rings.{Ring}
use Rattle.alphabet.specs.Sums.{added}
use Rattle.alphabet.proofs.Symbols.{zero_in}
use Rattle.table.specs.Tables.{Generator, coefficient, check}

-- one more product in a running sum, as the alphabet's calls answer it
pub added_more : {q : ℕ} {add : ℕ → ℕ → ℕ} {neg : ℕ → ℕ} {mul : ℕ → ℕ → ℕ} → Ring q add neg mul → (f : ℕ → ℕ) (i sum x y p t : ℕ)
    → sum ≡ added add i f → sum < q → x < q → y < q → f i ≡ mul x y → p ≡ mul (x % q) y → t ≡ add (sum % q) (p % q) → (t ≡ added add (i + 1) f) × (t < q)
added_more {q} {add} {neg} {mul} r f i sum x y p t e low lx ly fi ep et =
    let px : p ≡ mul x y = ep ∙ ap (λ z. mul z y) (mod-eq_of_lt lx) in
    let lp : p < q = subst (λ (z : ℕ). z < q) (sym px) (r.mul_closed x y lx ly) in
    let is : t ≡ add sum p = et ∙ ap₂ add (mod-eq_of_lt low) (mod-eq_of_lt lp) in
    (is ∙ ap₂ add e (px ∙ sym fi) ∙ ap (λ n. added add n f) (sym (add-one i)), subst (λ (z : ℕ). z < q) (sym is) (r.add_closed sum p low lp))

-- the first n symbols of the message have been added up by column j, and the rest of them and their rows are still to come
pub record Walking (s : Generator) (message : List ℕ) (j : ℕ) (symbols rows : List ℕ) (size n total : ℕ) : Type 0 where
  pub symbols_left : symbols ≡ drop n message
  pub rows_left : rows ≡ drop (n * s.m) s.rows
  pub wide : size ≡ s.m
  pub few : n ≤ length message
  pub sum : total ≡ added s.add n (λ i. s.mul (get_or message i 0) (coefficient s i j))
  pub low : total < s.q

pub begun : (s : Generator) (message : List ℕ) (j : ℕ) {neg : ℕ → ℕ} → Ring s.q s.add neg s.mul → (symbols rows : List ℕ) (size : ℕ)
    → symbols ≡ message → rows ≡ s.rows → size ≡ s.m → Walking s message j symbols rows size 0 0
begun s message j r symbols rows size es er ez = record {
  symbols_left = es;
  rows_left = er ∙ ap (λ i. drop i s.rows) (sym (zero-mul s.m));
  wide = ez;
  few = omega arith;
  sum = refl;
  low = zero_in r;
}

module _ (s : Generator) (message : List ℕ) (j : ℕ) {neg : ℕ → ℕ} (r : Ring s.q s.add neg s.mul) (symbols rows : List ℕ) (size n total : ℕ) (w : Walking s message j symbols rows size n total) where
  -- one more symbol x, and its row
  pub walk_more : (x p t : ℕ) (row symbols' rows' : List ℕ) (size' : ℕ) → length message ≡ s.k → ((i : ℕ) → i < s.k → get_or message i 0 < s.q) → j < s.m
      → symbols ≡ x ∷ symbols' → rows ≡ row ++ rows' → length row ≡ size → size' ≡ size
      → p ≡ s.mul (x % s.q) (get_or row j 0 % s.q) → t ≡ s.add (total % s.q) (p % s.q)
      → Walking s message j symbols' rows' size' (n + 1) t
  walk_more x p t row symbols' rows' size' sized low inside es er el ez ep et =
      let front : drop n message ≡ x ∷ symbols' = sym w.symbols_left ∙ es in
      let part : drop (n * s.m) s.rows ≡ row ++ rows' = sym w.rows_left ∙ er in
      let wide : length row ≡ s.m = el ∙ w.wide in
      let less : n < length message = omega (arith, ap length front, length-drop n message) in
      let first : n + 0 ≡ n = omega arith in
      let here : x ≡ get_or message n 0 = ap (λ l. get_or l 0 0) (sym front) ∙ get_or-drop n message 0 0 ∙ ap (λ i. get_or message i 0) first in
      let there : get_or row j 0 ≡ get_or s.rows (n * s.m + j) 0 =
      sym (get_or_append_left row rows' 0 j (omega arith)) ∙ ap (λ l. get_or l j 0) (sym part) ∙ get_or-drop (n * s.m) s.rows j 0 in
      let next : n * s.m + s.m ≡ (n + 1) * s.m = omega arith in
      let f : ℕ → ℕ = λ i. s.mul (get_or message i 0) (coefficient s i j) in
      let more = added_more r f n total x (coefficient s n j) p t w.sum w.low
      (subst (λ (z : ℕ). z < s.q) (sym here) (low n (omega arith))) (mod_below _ s.q (zero_in r))
      (ap (λ z. s.mul z (coefficient s n j)) (sym here)) (ep ∙ ap (λ z. s.mul (x % s.q) (z % s.q)) there) et in
      record {
        symbols_left = ap (drop 1) (sym front) ∙ drop-drop 1 n message;
        rows_left = sym (drop_at row rows' s.m wide) ∙ ap (drop s.m) (sym part) ∙ drop-drop s.m (n * s.m) s.rows ∙ ap (λ i. drop i s.rows) next;
        wide = ez ∙ w.wide;
        few = omega arith;
        sum = more.0;
        low = more.1;
      }

  -- nothing is left
  pub walked : length message ≡ s.k → s.k * s.m ≤ length s.rows → (length symbols ≡ 0) ⊎ (length rows < size) → total ≡ check s (λ i. get_or message i 0) j
  walked sized table over =
      let f : ℕ → ℕ = λ i. s.mul (get_or message i 0) (coefficient s i j) in
      let all : n ≡ s.k = ⊎_elim
      (λ e. omega (arith, ap length w.symbols_left, length-drop n message, w.few))
      (λ l. ⊎_elim
      (λ less. let up : n + 1 ≤ s.k = omega arith in
      absurd (omega (arith, mul-le-mul_right s.m up, ap length w.rows_left, length-drop (n * s.m) s.rows, w.wide)))
      (λ g. omega (arith, w.few))
      (cases_lt n s.k))
      over in
      w.sum ∙ ap (λ i. added s.add i f) all
