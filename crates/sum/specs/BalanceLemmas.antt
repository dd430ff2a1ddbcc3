-- The words that add up to 0 show the laws, and what a read of them needs. Assumes nothing.
use Rattle.std.specs.Prelude.{◌≡◌, ℕ, suc, ◌-◌, ◌<◌, ◌≤◌, true, cond, ◌≢◌, List, length, ◌==◌, nat_le, nat_lt, slice_index, slice_index_or}
use Rattle.std.proofs.Common.{sym, ap, ap₂, ◌∙◌, inl, inr, arith, ext_get_or}
use Rattle.std.proofs.lemmas.Bool.{cases_lt, cond-true, cond-false, eq-eqb, ne_eqb, lt-ltb, le-ltb, and_parts, leb-true}
use Rattle.alphabet.specs.Sums.{sum, added}
use Rattle.code.specs.Cells.{listed, differing}
use Rattle.alphabet.specs.Rings.{Ring}
use Rattle.code.specs.Codes.{Apart, Linear, Message, Carries}
use Rattle.sum.specs.Balance.{Balanced, balances, but_last, summable}
use Rattle.alphabet.proofs.Sums.{two_places}
use Rattle.code.proofs.Rows.{length-listed, get_or-listed, agree_or_differ, where_differ, constant_listed}
use Rattle.code.proofs.Costs.{unlike-one}
use Rattle.alphabet.proofs.Symbols.{zero_in, mul-zero}
use Rattle.alphabet.proofs.Additions.{added_same, added_closed, added_nought, added-add, added-mul, added_told}

pub at_least_two : (n : ℕ) → summable n ≡ true → 2 ≤ n
at_least_two n e = leb-true 2 n (and_parts (nat_le 2 n) (nat_le n 64) e).0

module _ {q : ℕ} {add : ℕ → ℕ → ℕ} {neg : ℕ → ℕ} {mul : ℕ → ℕ → ℕ} (r : Ring q add neg mul) (n : ℕ) (long : 2 ≤ n) where
  balanced_listed : (f : ℕ → ℕ) → ((i : ℕ) → i < n → f i < q) → added add n f ≡ 0 → Balanced add q n (listed n f)
  balanced_listed f low e = record {
    sized = length-listed n f;
    symbols = λ i h. rw (get_or-listed n f i h) (low i h);
    balance = added_same add n _ f (λ i h. get_or-listed n f i h) ∙ e;
  }

  balanced_apart : (u v : List ℕ) → Balanced add q n u → Balanced add q n v → u ≢ v → 2 ≤ differing u v
  balanced_apart u v a b ne =
      let U : ℕ → ℕ = λ i. slice_index_or u i 0 in
      let V : ℕ → ℕ = λ i. slice_index_or v i 0 in
      let D : ℕ → ℕ = λ i. cond (U i == V i) 0 1 in
      let d = where_differ n u v a.sized b.sized ne in
      let i = d.0 in
      elim (agree_or_differ n U (λ j. cond (j == i) (U j) (V j))) [
        | inl all ↦ absurd (d.2 (added_told r n U V i d.1 a.symbols b.symbols
            (λ j l no-i. all j l ∙ cond-false (j == i) (U j) (V j) (ne_eqb j i no-i)) (a.balance ∙ sym b.balance)))
        | inr x ↦
            let j = x.0 in
            let apart : i ≢ j = λ z. x.2 (sym (cond-true (j == i) (U j) (V j) (eq-eqb j i (sym z)))) in
            let other : U j ≢ V j = λ z. x.2 (z ∙ sym (cond-false (j == i) (U j) (V j) (ne_eqb j i (λ y. apart (sym y))))) in
            let two : 2 ≤ sum n D = two_places n D i j d.1 x.1 apart (unlike-one (U i) (V i) d.2) (unlike-one (U j) (V j) other) in
            omega (arith, two, ap (λ k. sum k D) a.sized)
      ]

  pub balances_apart : Apart (balances add q n)
  balances_apart = record {
    positive = omega arith;
    short = long;
    sized = λ w h. h.sized;
    symbols = λ w h. h.symbols;
    apart = balanced_apart;
  }

  -- a message with the negative of its sum behind it
  pub completed : (m w : List ℕ) → Message q (n - 1) m → length w ≡ n → Carries (but_last n) m w
      → slice_index w (n - 1) ≡ neg (added add (n - 1) (λ i. slice_index m i)) → Balanced add q n w
  completed m w M sized carries last =
      let k = n - 1 in
      let X : ℕ → ℕ = λ i. slice_index_or m i 0 in
      let W : ℕ → ℕ = λ i. slice_index_or w i 0 in
      let s : added add k X < q = added_closed r k X M.symbols in
      let e : n ≡ suc k = omega arith in
      record {
        sized = sized;
        symbols = λ i h. elim (cases_lt i k) [
          | inl l ↦ rw (carries i l) (M.symbols i l)
          | inr g ↦ let z : i ≡ k = omega arith in rw (ap W z ∙ last) (r.neg_closed (added add k X) s)
        ];
        balance = ap (λ x. added add x W) e ∙ ap₂ add (added_same add k W X carries) last ∙ r.add-neg (added add k X) s;
      }

  balanced_carried : (m : List ℕ) → Message q (n - 1) m → (w : List ℕ) × (Balanced add q n w × Carries (but_last n) m w)
  balanced_carried m M =
      let k = n - 1 in
      let X : ℕ → ℕ = λ i. slice_index_or m i 0 in
      let S = added add k X in
      let f : ℕ → ℕ = λ i. cond (nat_lt i k) (X i) (neg S) in
      let front : (i : ℕ) → i < k → slice_index (listed n f) i ≡ X i =
      λ i h. get_or-listed n f i (omega arith) ∙ cond-true (nat_lt i k) (X i) (neg S) (lt-ltb i k h) in
      let last : slice_index_or (listed n f) k 0 ≡ neg S = get_or-listed n f k (omega arith) ∙ cond-false (nat_lt k k) (X k) (neg S) (le-ltb k k (omega arith)) in
      (listed n f, (completed m (listed n f) M (length-listed n f) front last, front))

  balanced_once : (m u v : List ℕ) → Message q (n - 1) m → Balanced add q n u → Balanced add q n v
      → Carries (but_last n) m u → Carries (but_last n) m v → u ≡ v
  balanced_once m u v M a b cu cv =
      let U : ℕ → ℕ = λ i. slice_index_or u i 0 in
      let V : ℕ → ℕ = λ i. slice_index_or v i 0 in
      let front : (i : ℕ) → i < n - 1 → U i ≡ V i = λ i h. cu i h ∙ sym (cv i h) in
      let each : (i : ℕ) → i < n → U i ≡ V i =
      λ i h. elim (cases_lt i (n - 1)) [
        | inl l ↦ front i l
        | inr g ↦ added_told r n U V i h a.symbols b.symbols
            (λ j l ne. elim (cases_lt j (n - 1)) [ inl x ↦ front j x | inr x ↦ absurd (ne (omega arith)) ])
            (a.balance ∙ sym b.balance)
      ] in
      ext_get_or 0 u v (a.sized ∙ sym b.sized) (λ i h. each i (omega (arith, a.sized)))

  pub balances_linear : Linear (balances add q n) (but_last n) add mul
  balances_linear = record {
    few = omega arith;
    inside = λ i h. omega arith;
    distinct = λ i j h k e. e;
    nought = rw (constant_listed n 0) (balanced_listed (λ i. 0) (λ i h. zero_in r) (added_nought r n (λ i. 0) (λ i h. omega arith)));
    sums = λ u v a b.
        let U : ℕ → ℕ = λ i. slice_index_or u i 0 in
        let V : ℕ → ℕ = λ i. slice_index_or v i 0 in
        balanced_listed (λ i. add (U i) (V i)) (λ i h. r.add_closed (U i) (V i) (a.symbols i h) (b.symbols i h))
        (added-add r n U V a.symbols b.symbols ∙ ap₂ add a.balance b.balance ∙ r.add-zero 0 (zero_in r));
    multiples = λ c u low a.
        let U : ℕ → ℕ = λ i. slice_index_or u i 0 in
        balanced_listed (λ i. mul c (U i)) (λ i h. r.mul_closed c (U i) low (a.symbols i h))
        (added-mul r c n U low a.symbols ∙ ap (mul c) a.balance ∙ mul-zero r c low);
    carried = balanced_carried;
    once = balanced_once;
  }
