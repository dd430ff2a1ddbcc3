-- What a word carries tells it: taking out and encoding undo one another, and a word is what its message symbols make of the words that carry one symbol each. Assumes nothing.
use Rattle.std.proofs.Common.{◌≡◌, ℕ, zero, suc, ◌<◌, cond, eqb, ◌≢◌, List, get_or, sym, ap, ◌∙◌, subst, ap₂, arith}
use Rattle.std.proofs.lemmas.Bool.{cond-true, cond-false, eq-eqb, ne_eqb}
use Rattle.std.proofs.lemmas.Bool.Decides.{nat_tests}
use Rattle.code.specs.Cells.{listed}
use Rattle.alphabet.specs.Rings.{Ring}
use Rattle.code.specs.Codes.{Codebook, Layout, Apart, Linear, Message, Carries, taken}
use Rattle.alphabet.specs.Sums.{added}
use Rattle.code.proofs.Rows.{length-listed, get_or-listed, listed_same, constant_listed}
use Rattle.alphabet.proofs.Symbols.{one_in, mul-zero}
use Rattle.alphabet.proofs.Additions.{added-one}

-- ---- there and back
pub carries_taken : (l : Layout) (w : List ℕ) → Carries l (taken l w) w
carries_taken l w i h = sym (get_or-listed l.k (λ i. get_or w (l.place i) 0) i h)

module _ (s : Codebook) (l : Layout) (add mul : ℕ → ℕ → ℕ) (a : Apart s) (p : Linear s l add mul) where
  pub taken_message : (w : List ℕ) → s.Word w → Message s.q l.k (taken l w)
  taken_message w h = record {
    sized = length-listed l.k (λ i. get_or w (l.place i) 0);
    symbols = λ i j. rw (get_or-listed l.k (λ i. get_or w (l.place i) 0) i j) (a.symbols w h (l.place i) (p.inside i j));
  }

  -- encoding what was taken out gives the word
  pub encoded_taken : (w v : List ℕ) → s.Word w → s.Word v → Carries l (taken l w) v → v ≡ w
  encoded_taken w v h k c = p.once (taken l w) v w (taken_message w h) k h c (carries_taken l w)

-- ---- words made of words
-- at each of n places what k lists hold there, each times its own symbol, added up
abbrev pub combined : (add mul : ℕ → ℕ → ℕ) (n k : ℕ) (c : ℕ → ℕ) (W : ℕ → List ℕ) → List ℕ
combined add mul n k c W = listed n (λ j. added add k (λ i. mul (c i) (get_or (W i) j 0)))

module _ (s : Codebook) (l : Layout) (add mul : ℕ → ℕ → ℕ) (p : Linear s l add mul) where
  pub nought_word : s.Word (listed s.n (λ j. 0))
  nought_word = subst s.Word (constant_listed s.n 0) p.nought

  pub combined-word : (k : ℕ) (c : ℕ → ℕ) (W : ℕ → List ℕ) → ((i : ℕ) → i < k → c i < s.q) → ((i : ℕ) → i < k → s.Word (W i))
      → s.Word (combined add mul s.n k c W)
  combined-word zero c W low h = nought_word
  combined-word (suc k) c W low h =
      let F : ℕ → ℕ = λ j. added add k (λ i. mul (c i) (get_or (W i) j 0)) in
      let G : ℕ → ℕ = λ j. mul (c k) (get_or (W k) j 0) in
      subst s.Word (listed_same s.n _ (λ j. add (F j) (G j)) (λ j h. ap₂ add (get_or-listed s.n F j h) (get_or-listed s.n G j h)))
      (p.sums (listed s.n F) (listed s.n G)
      (combined-word k c W (λ i j. low i (omega arith)) (λ i j. h i (omega arith)))
      (p.multiples (c k) (W k) (low k (omega arith)) (h k (omega arith))))

-- ---- the words that carry one symbol
abbrev pub unit : ℕ → ℕ → List ℕ
unit k i = listed k (λ j. cond (eqb j i) 1 0)

module _ {s : Codebook} {l : Layout} {add mul : ℕ → ℕ → ℕ} {neg : ℕ → ℕ} (r : Ring s.q add neg mul) (a : Apart s) (p : Linear s l add mul) where
  unit_low : (q x y : ℕ) → 1 < q → cond (eqb x y) 1 0 < q
  unit_low q x y h = grind (arith, nat_tests)

  unit_message : (i : ℕ) → Message s.q l.k (unit l.k i)
  unit_message i = record {
    sized = length-listed l.k (λ j. cond (eqb j i) 1 0);
    symbols = λ j h. rw (get_or-listed l.k (λ j. cond (eqb j i) 1 0) j h) (unit_low s.q j i (one_in r));
  }

  -- the word that carries 1 as message symbol i, and 0 as each other
  pub unit-word : ℕ → List ℕ
  unit-word i = (p.carried (unit l.k i) (unit_message i)).0

  pub unit_is_word : (i : ℕ) → s.Word (unit-word i)
  unfolding unit-word
  unit_is_word i = (p.carried (unit l.k i) (unit_message i)).1.0

  unit_at : (i j : ℕ) → j < l.k → get_or (unit-word i) (l.place j) 0 ≡ cond (eqb j i) 1 0
  unfolding unit-word
  unit_at i j h = (p.carried (unit l.k i) (unit_message i)).1.1 j h ∙ get_or-listed l.k (λ j. cond (eqb j i) 1 0) j h

  -- what message symbol j is, of the words that carry one symbol each
  one_symbol : (x : ℕ → ℕ) → ((i : ℕ) → i < l.k → x i < s.q) → (j : ℕ) → j < l.k
      → added add l.k (λ i. mul (x i) (get_or (unit-word i) (l.place j) 0)) ≡ x j
  one_symbol x low j h =
      let f : ℕ → ℕ = λ i. mul (x i) (get_or (unit-word i) (l.place j) 0) in
      let here : f j ≡ x j = ap (mul (x j)) (unit_at j j h ∙ cond-true (eqb j j) 1 0 (eq-eqb j j (omega arith))) ∙ r.mul-one (x j) (low j h) in
      let there : (i : ℕ) → i < l.k → i ≢ j → f i ≡ 0 =
      λ i k ne. ap (mul (x i)) (unit_at i j h ∙ cond-false (eqb j i) 1 0 (ne_eqb j i (λ z. ne (sym z)))) ∙ mul-zero r (x i) (low i k) in
      added-one r l.k f j h (rw here (low j h)) there ∙ here

  -- a word is what its message symbols make of the unit words
  pub expanded : (w : List ℕ) → s.Word w → w ≡ combined add mul s.n l.k (λ i. get_or w (l.place i) 0) unit-word
  expanded w h =
      let x : ℕ → ℕ = λ i. get_or w (l.place i) 0 in
      let low : (i : ℕ) → i < l.k → x i < s.q = λ i j. a.symbols w h (l.place i) (p.inside i j) in
      p.once (taken l w) w (combined add mul s.n l.k x unit-word) (taken_message s l add mul a p w h) h
      (combined-word s l add mul p l.k x unit-word low (λ i j. unit_is_word i))
      (carries_taken l w)
      (λ j k.
      get_or-listed s.n (λ y. added add l.k (λ i. mul (x i) (get_or (unit-word i) y 0))) (l.place j) (p.inside j k)
      ∙ one_symbol x low j k
      ∙ sym (get_or-listed l.k x j k))
