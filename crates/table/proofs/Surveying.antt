-- A survey goes on by one word: the least weight so far, and the cheapest word so far. Assumes nothing.
use Rattle.std.proofs.Common.{◌≡◌, ℕ, zero, suc, ◌+◌, ◌-◌, ◌*◌, ◌^◌, ◌<◌, ◌≤◌, min, true, false, cond, not, eqb, count_by, List, [], ◌∷◌, length, get_or, take, replicate, sym, refl, ap, ◌∙◌, subst, ap₂, inl, inr, arith, below_more}
use lib.ListN.{length-replicate, get_or-replicate}
use Rattle.std.proofs.lemmas.List.{take-replicate}
use Rattle.std.proofs.lemmas.Bool.{cases_eq}
use Rattle.std.proofs.lemmas.Bool.Decides.{nat_tests}
use Rattle.std.proofs.lemmas.List.Sums.{sum_by-cons}
use Rattle.alphabet.specs.Rings.{Ring}
use Rattle.alphabet.specs.Sums.{sum}
use Rattle.code.specs.declared.cells.Counts.{Counts}
use Rattle.code.specs.Cells.{wrong, wrongs, blanks, cost}
use Rattle.alphabet.proofs.Sums.{sum_same}
use Rattle.table.specs.Tables.{Generator, Tabled, weight, number, spelled, lowest, least}
use Rattle.table.specs.Surveys.{Surveyed}
use Rattle.table.specs.Numbers.{number_same, number_nought, lowest_more}
use Rattle.table.specs.Laws.{spelled-number, each_word, tables_linear}

-- the words of the messages below t have been seen, and the running word is that of message t - 1
pub record Sofar (s : Generator) (r word nearest : List ℕ) (t d : ℕ) (c : Counts) : Type 0 where
  pub running : Tabled s word
  pub numbered : number s.q s.k (λ i. get_or word i 0) + 1 ≡ t
  pub distance : d ≡ lowest (s.k + s.m) (λ u. weight (spelled s (u + 1))) (t - 1)
  pub tabled : Tabled s nearest
  pub wrong : c.wrong ≡ wrongs r nearest
  pub blank : c.blank ≡ blanks r
  pub few : c.wrong + c.blank ≤ length r
  pub cheapest : (u : ℕ) → u < t → cost r nearest ≤ cost r (spelled s u)

-- ---- weights are counts against zeros
one-zero : (x y : ℕ) → x ≡ 0 → wrong x y ≡ cond (eqb y 0) 0 1
one-zero x y e = elim (cases_eq y 0) [ inl z ↦ grind (arith, nat_tests) | inr ne ↦ grind (arith, nat_tests) ]

pub weight_counted : (n k : ℕ) (w : List ℕ) → length w ≡ n → n ≤ k → wrongs (take (n - 0) (replicate k 0)) w ≡ weight w
weight_counted n k w e h =
    let m : n - 0 ≡ n = omega arith in
    let inside : (i : ℕ) → i < length w → i < n = λ i l. omega arith in
    let zeros : take (n - 0) (replicate k 0) ≡ replicate n 0 = ap (λ j. take j (replicate k 0)) m ∙ take-replicate n k 0 h in
    ap (λ z. wrongs z w) zeros
    ∙ ap (λ j. sum j (λ i. wrong (get_or (replicate n 0) i 0) (get_or w i 0))) (length-replicate n 0 ∙ sym e)
    ∙ sum_same (length w) (λ i. wrong (get_or (replicate n 0) i 0) (get_or w i 0)) (λ i. cond (eqb (get_or w i 0) 0) 0 1)
    (λ i l. one-zero (get_or (replicate n 0) i 0) (get_or w i 0) (get_or-replicate n i 0 0 (inside i l)))

-- ---- a weight counts the symbols that are not 0
sum_front : (n : ℕ) (f : ℕ → ℕ) → sum (suc n) f ≡ f 0 + sum n (λ i. f (suc i))
sum_front zero f = omega arith
sum_front (suc n) f = omega (arith, sum_front n f)

pub count-weight : (w : List ℕ) → count_by (λ x. not (eqb x 0)) w ≡ weight w
count-weight [] = refl
count-weight (x ∷ w) =
    let one : ◌≡◌ {A = ℕ} (cond (not (eqb x 0)) 1 0) (cond (eqb x 0) 0 1) = elim (eqb x 0) as (λ b. ◌≡◌ {A = ℕ} (cond (not b) 1 0) (cond b 0 1)) [ true ↦ refl | false ↦ refl ] in
    sum_by-cons (λ y. cond (not (eqb y 0)) 1 0) x w ∙ ap₂ ◌+◌ one (count-weight w) ∙ sym (sum_front (length w) (λ i. cond (eqb (get_or (x ∷ w) i 0) 0) 0 1))

module _ (s : Generator) {neg : ℕ → ℕ} (ring : Ring s.q s.add neg s.mul) (r : List ℕ) where
  -- ---- the first word is the zero word
  pub first_word : (w : List ℕ) → w ≡ replicate (s.k + s.m) 0 → Tabled s w
  first_word w e = subst (Tabled s) (sym e) (tables_linear s ring).nought

  first-number : (w : List ℕ) → w ≡ replicate (s.k + s.m) 0 → number s.q s.k (λ i. get_or w i 0) ≡ 0
  first-number w e =
      number_same s.q s.k (λ i. get_or w i 0) (λ i. 0)
      (λ i l. ap (λ z. get_or z i 0) e ∙ get_or-replicate (s.k + s.m) i 0 0 (omega arith))
      ∙ number_nought s.q s.k

  pub begun : (word nearest : List ℕ) (c : Counts) → word ≡ replicate (s.k + s.m) 0 → nearest ≡ replicate (s.k + s.m) 0
      → c.wrong ≡ wrongs r nearest → c.blank ≡ blanks r → c.wrong + c.blank ≤ length r → Sofar s r word nearest 1 (s.k + s.m) c
  begun word nearest c ew en wrong-is blank-is small =
      let zero_is : spelled s 0 ≡ nearest = ap (spelled s) (sym (first-number nearest en)) ∙ spelled-number s ring nearest (first_word nearest en) in
      record {
        running = first_word word ew;
        numbered = omega (arith, first-number word ew);
        distance = refl;
        tabled = first_word nearest en;
        wrong = wrong-is;
        blank = blank-is;
        few = small;
        cheapest = λ u l. let z : u ≡ 0 = omega arith in omega (arith, ap (cost r) (ap (spelled s) z ∙ zero_is));
      }

  -- ---- one word more
  module _ (word nearest next : List ℕ) (t distance w : ℕ) (c : Counts) (h : Sofar s r word nearest t distance c)
      (tabled : Tabled s next) (moved : number s.q s.k (λ i. get_or next i 0) ≡ number s.q s.k (λ i. get_or word i 0) + 1) (weighs : w ≡ weight next) where
    number_is : number s.q s.k (λ i. get_or next i 0) ≡ t
    number_is = moved ∙ h.numbered

    word_is : spelled s t ≡ next
    word_is = ap (spelled s) (sym number_is) ∙ spelled-number s ring next tabled

    less : min distance w ≡ lowest (s.k + s.m) (λ u. weight (spelled s (u + 1))) (t + 1 - 1)
    less =
        let one : 1 ≤ t = omega (arith, h.numbered) in
        let back : t - 1 + 1 ≡ t = omega arith in
        lowest_more (s.k + s.m) (λ u. weight (spelled s (u + 1))) t distance w one h.distance
        (weighs ∙ ap weight (sym word_is) ∙ ap (λ u. weight (spelled s u)) (sym back))

    pub nearer : (o : Counts) → o.wrong ≡ wrongs r next → o.blank ≡ blanks r → o.wrong + o.blank ≤ length r
        → 2 * o.wrong + o.blank < 2 * c.wrong + c.blank → Sofar s r next next (t + 1) (min distance w) o
    nearer o wrong-is blank-is small cheaper = record {
      running = tabled;
      numbered = ap (λ x. x + 1) number_is;
      distance = less;
      tabled = tabled;
      wrong = wrong-is;
      blank = blank-is;
      few = small;
      cheapest = below_more _ _
          (λ u l. omega (arith, h.cheapest u l, h.wrong, h.blank))
          (omega (arith, ap (cost r) word_is));
    }

    pub kept : (o : Counts) → o.wrong ≡ wrongs r next → o.blank ≡ blanks r
        → 2 * c.wrong + c.blank ≤ 2 * o.wrong + o.blank → Sofar s r next nearest (t + 1) (min distance w) c
    kept o wrong-is blank-is dearer = record {
      running = tabled;
      numbered = ap (λ x. x + 1) number_is;
      distance = less;
      tabled = h.tabled;
      wrong = h.wrong;
      blank = h.blank;
      few = h.few;
      cheapest = below_more _ _ h.cheapest (omega (arith, ap (cost r) word_is, h.wrong, h.blank));
    }

    -- what the code holds under other names: y for the nearest word, e for the least weight, k for the counts
    pub renamed : (x y : List ℕ) (e : ℕ) (k o : Counts) → y ≡ x → e ≡ min distance w → k ≡ o → Sofar s r next x (t + 1) (min distance w) o → Sofar s r next y (t + 1) e k
    renamed x y e k o ey ee ek h =
        subst (λ (z : List ℕ). Sofar s r next z (t + 1) e k) (sym ey)
        (subst (λ (z : ℕ). Sofar s r next x (t + 1) z k) (sym ee)
        (subst (λ (z : Counts). Sofar s r next x (t + 1) (min distance w) z) (sym ek) h))

  -- ---- all words
  pub surveyed : (word nearest : List ℕ) (t distance : ℕ) (c : Counts) → Sofar s r word nearest t distance c → t ≡ s.q ^ s.k
      → Surveyed s r nearest (record { distance = distance; counts = c })
  unfolding least
  surveyed word nearest t distance c h all = record {
    distance = h.distance ∙ ap (λ u. lowest (s.k + s.m) (λ v. weight (spelled s (v + 1))) (u - 1)) all;
    nearest = record {
      tabled = h.tabled;
      wrong = h.wrong;
      blank = h.blank;
      few = h.few;
      cheapest = each_word s ring (λ v. cost r nearest ≤ cost r v) (λ u l. h.cheapest u (omega arith));
    };
  }
