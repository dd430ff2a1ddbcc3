-- The ring laws by one test at all symbols, which antt computes, and the lemma that turns it into the laws. Assumes nothing.
use Rattle.std.specs.Prelude.{ℕ, zero, suc, ◌<◌, ◌≤◌, Bool, true, false, ◌&&◌, T, ◌==◌, nat_lt}
use Rattle.std.proofs.Common.{sym, subst, ⊎_elim, arith, not-suc-le-zero, eq-or-lt_of_le, eqb→eq, ltb→lt}
use Rattle.alphabet.specs.Rings.{Ring}

left : (a b : Bool) → T (a && b) → T a
left true b t = tt
left false b t = t

right : (a b : Bool) → T (a && b) → T b
right true b t = t
right false b t = absurd t

-- the test passes at each number below n
abbrev pub all : ℕ → (ℕ → Bool) → Bool
all zero f = true
all (suc n) f = f n && all n f

pub at : (n : ℕ) (f : ℕ → Bool) → T (all n f) → (k : ℕ) → k < n → T (f k)
at zero f t k h = absurd (not-suc-le-zero h)
at (suc n) f t k h =
    let less : k ≤ n = omega arith in
    ⊎_elim (λ e. subst (λ (m : ℕ). T (f m)) (sym e) (left (f n) (all n f) t)) (λ l. at n f (right (f n) (all n f) t) k l) (eq-or-lt_of_le less)

-- at pairs
pub at_two : (n : ℕ) (f : ℕ → ℕ → Bool) → T (all n (λ a. all n (f a))) → (a b : ℕ) → a < n → b < n → T (f a b)
at_two n f t a b ha hb = at n (f a) (at n (λ x. all n (f x)) t a ha) b hb

module _ (q : ℕ) (add : ℕ → ℕ → ℕ) (neg : ℕ → ℕ) (mul : ℕ → ℕ → ℕ) where
  -- what is tested at one symbol, at two and at three
  abbrev one : ℕ → Bool
  one a = nat_lt (neg a) q && (add a 0 == a && (add a (neg a) == 0 && mul a 1 == a))

  abbrev two : ℕ → ℕ → Bool
  two a b = nat_lt (add a b) q && (nat_lt (mul a b) q && (add a b == add b a && mul a b == mul b a))

  abbrev three : ℕ → ℕ → ℕ → Bool
  three a b c =
      (add (add a b) c == add a (add b c))
      && (mul (mul a b) c == mul a (mul b c) && mul a (add b c) == add (mul a b) (mul a c))

  abbrev pub passes : Bool
  passes = all q (λ a. one a && all q (λ b. two a b && all q (λ c. three a b c)))

  module _ (t : T passes) where
    first : (a : ℕ) → a < q → T (one a && all q (λ b. two a b && all q (λ c. three a b c)))
    first a ha = at q (λ x. one x && all q (λ b. two x b && all q (λ c. three x b c))) t a ha

    at_one : (a : ℕ) → a < q → T (one a)
    at_one a ha = left (one a) _ (first a ha)

    second : (a b : ℕ) → a < q → b < q → T (two a b && all q (λ c. three a b c))
    second a b ha hb = at q (λ y. two a y && all q (λ c. three a y c)) (right (one a) _ (first a ha)) b hb

    at_pair : (a b : ℕ) → a < q → b < q → T (two a b)
    at_pair a b ha hb = left (two a b) _ (second a b ha hb)

    at_triple : (a b c : ℕ) → a < q → b < q → c < q → T (three a b c)
    at_triple a b c ha hb hc = at q (λ z. three a b z) (right (two a b) _ (second a b ha hb)) c hc

    pub tested : 2 ≤ q → q ≤ 256 → Ring q add neg mul
    tested low high = record {
      low = low;
      high = high;
      add_closed = λ a b ha hb. ltb→lt (add a b) q (left _ _ (at_pair a b ha hb));
      neg_closed = λ a ha. ltb→lt (neg a) q (left _ _ (at_one a ha));
      mul_closed = λ a b ha hb. ltb→lt (mul a b) q (left _ _ (right (nat_lt (add a b) q) _ (at_pair a b ha hb)));
      add_assoc = λ a b c ha hb hc. eqb→eq _ _ (left _ _ (at_triple a b c ha hb hc));
      add_comm = λ a b ha hb. eqb→eq _ _ (left _ _ (right (nat_lt (mul a b) q) _ (right (nat_lt (add a b) q) _ (at_pair a b ha hb))));
      add-zero = λ a ha. eqb→eq _ _ (left _ _ (right (nat_lt (neg a) q) _ (at_one a ha)));
      add-neg = λ a ha. eqb→eq _ _ (left _ _ (right (add a 0 == a) _ (right (nat_lt (neg a) q) _ (at_one a ha))));
      mul_assoc = λ a b c ha hb hc. eqb→eq _ _ (left _ _ (right (add (add a b) c == add a (add b c)) _ (at_triple a b c ha hb hc)));
      mul_comm = λ a b ha hb. eqb→eq _ _ (right (add a b == add b a) _ (right (nat_lt (mul a b) q) _ (right (nat_lt (add a b) q) _ (at_pair a b ha hb))));
      mul-one = λ a ha. eqb→eq _ _ (right (add a (neg a) == 0) _ (right (add a 0 == a) _ (right (nat_lt (neg a) q) _ (at_one a ha))));
      mul-add = λ a b c ha hb hc. eqb→eq _ _ (right (mul (mul a b) c == mul a (mul b c)) _ (right (add (add a b) c == add a (add b c)) _ (at_triple a b c ha hb hc)));
    }
