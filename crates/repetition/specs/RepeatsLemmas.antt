-- The words of n equal symbols show the laws, and what a read of them needs. Assumes nothing.
use Rattle.std.specs.Prelude.{◌≡◌, ℕ, ◌-◌, ◌<◌, ◌≤◌, true, cond, ◌≢◌, List, length, take, replicate, ◌==◌, nat_le, slice_index, refl}
use Rattle.std.proofs.Common.{sym, ap, subst, ◌∙◌, inl, inr, arith}
use Rattle.std.proofs.lemmas.List.{take-replicate, length-replicate, get_or-replicate}
use Rattle.std.proofs.lemmas.Bool.{and_parts, leb-true, cases_eq}
use Rattle.alphabet.specs.Sums.{sum}
use Rattle.code.specs.Cells.{cost}
use Rattle.alphabet.specs.Rings.{Ring}
use Rattle.code.specs.Codes.{Apart, Linear, Carries}
use Rattle.code.specs.Calls.{Beyond}
use Rattle.alphabet.proofs.Sums.{sum_ones}
use Rattle.code.proofs.Rows.{listed_constant}
use Rattle.code.proofs.Costs.{unlike-one}
use Rattle.alphabet.proofs.Symbols.{zero_in}
use Rattle.repetition.specs.Repeats.{Repeated, repeats, first, repeatable}

pub at_least_one : (n : ℕ) → repeatable n ≡ true → 1 ≤ n
at_least_one n e = leb-true 1 n (and_parts (nat_le 1 n) (nat_le n 64) e).0

-- each symbol of a word is the word's
pub symbol_at : {q n : ℕ} (w : List ℕ) (h : Repeated q n w) (i : ℕ) → i < n → slice_index w i ≡ h.symbol
symbol_at {q} {n} w h i l = ap (λ u. slice_index u i) h.same ∙ get_or-replicate n i h.symbol 0 l

pub word : (q n v : ℕ) → v < q → Repeated q n (replicate n v)
word q n v h = record { symbol = v; below = h; same = refl }

-- the first symbol is carried
pub carries : (n : ℕ) (m w : List ℕ) → 1 ≤ n → w ≡ replicate n (slice_index m 0) → Carries first m w
carries n m w low e i h =
    let z : i ≡ 0 = omega arith in
    let in' : i < n = omega arith in
    ap (λ u. slice_index u i) e ∙ get_or-replicate n i (slice_index m 0) 0 in' ∙ ap (λ j. slice_index m j) (sym z)

-- the first n of at least as many equal symbols
pub front : (n k v : ℕ) → n ≤ k → take (n - 0) (replicate k v) ≡ replicate n v
front n k v h = let e : n - 0 ≡ n = omega arith in ap (λ m. take m (replicate k v)) e ∙ take-replicate n k v h

-- where the words of all other symbols cost n at least, and that of v does too, none is within reach
pub none_near : (q n v : ℕ) (r : List ℕ) → ((u : ℕ) → u ≢ v → n ≤ cost r (replicate n u)) → n ≤ cost r (replicate n v) → Beyond (repeats q n) r
none_near q n v r others here w h =
    subst (λ (u : List ℕ). n ≤ cost r u) (sym h.same)
    (elim (cases_eq h.symbol v) [ inl e ↦ rw e here | inr ne ↦ others h.symbol ne ])

pub repeats_apart : (q n : ℕ) → 1 ≤ n → Apart (repeats q n)
repeats_apart q n low = record {
  positive = low;
  short = omega arith;
  sized = λ w h. ap length h.same ∙ length-replicate n h.symbol;
  symbols = λ w h i l. subst (λ (x : ℕ). x < q) (sym (symbol_at w h i l)) h.below;
  apart = λ u v hu hv ne.
      let long : length u ≡ n = ap length hu.same ∙ length-replicate n hu.symbol in
      let other : hu.symbol ≡ hv.symbol → ⊥ = λ e. ne (hu.same ∙ ap (λ x. replicate n x) e ∙ sym hv.same) in
      subst (λ (m : ℕ). n ≤ sum m (λ i. cond (slice_index u i == slice_index v i) 0 1)) (sym long)
      (sum_ones n (λ i. cond (slice_index u i == slice_index v i) 0 1)
      (λ i l. unlike-one (slice_index u i) (slice_index v i) (λ e. other (sym (symbol_at u hu i l) ∙ e ∙ symbol_at v hv i l))));
}

pub repeats_linear : {q : ℕ} {add : ℕ → ℕ → ℕ} {neg : ℕ → ℕ} {mul : ℕ → ℕ → ℕ} (n : ℕ) → Ring q add neg mul → 1 ≤ n → Linear (repeats q n) first add mul
repeats_linear {q} {add} {neg} {mul} n r low =
    let none : 0 < n = omega arith in
    record {
      few = low;
      inside = λ i h. omega arith;
      distinct = λ i j hi hj e. e;
      nought = word q n 0 (zero_in r);
      sums = λ u v hu hv. record {
        symbol = add hu.symbol hv.symbol;
        below = r.add_closed hu.symbol hv.symbol hu.below hv.below;
        same = listed_constant n (add hu.symbol hv.symbol) (λ i. add (slice_index u i) (slice_index v i)) (λ i l. let eu = symbol_at u hu i l in let ev = symbol_at v hv i l in cc);
      };
      multiples = λ a u h hu. record {
        symbol = mul a hu.symbol;
        below = r.mul_closed a hu.symbol h hu.below;
        same = listed_constant n (mul a hu.symbol) (λ i. mul a (slice_index u i)) (λ i l. ap (λ x. mul a x) (symbol_at u hu i l));
      };
      carried = λ m s. (replicate n (slice_index m 0), (word q n (slice_index m 0) (s.symbols 0 (omega arith)), carries n m (replicate n (slice_index m 0)) low refl));
      once = λ m u v s hu hv cu cv.
          let same : hu.symbol ≡ hv.symbol = sym (symbol_at u hu 0 none) ∙ cu 0 (omega arith) ∙ sym (cv 0 (omega arith)) ∙ symbol_at v hv 0 none in
          hu.same ∙ ap (λ x. replicate n x) same ∙ sym hv.same;
    }
