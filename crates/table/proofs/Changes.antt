-- A word whose message changes at one place: its check symbols change by that place's row. Assumes nothing.
use Rattle.std.proofs.Common.{◌≡◌, ℕ, ◌+◌, ◌-◌, ◌%◌, ◌<◌, ◌≤◌, cond, eqb, ◌≢◌, List, length, get_or, set, sym, refl, ap, ◌∙◌, subst, ap₂, inl, inr, mod-eq_of_lt, arith, get_or-set_other, get_or-set_same, below_more}
use Rattle.std.proofs.lemmas.Bool.{cases_eq, cases_lt, cond-true, cond-false, eq-eqb, ne_eqb}
use Rattle.alphabet.specs.Rings.{Ring}
use Rattle.alphabet.proofs.Symbols.{zero_in, zero-add}
use Rattle.alphabet.proofs.Additions.{added_same, added-one, added-add}
use Rattle.table.specs.Tables.{Generator, coefficient, check, Tabled}
use Rattle.table.specs.Laws.{coefficient_low, add-mul, check_low}

-- the first j check symbols of the cells f have been changed by so many times row i, and the rest is as it was
pub record Changing (s : Generator) (f word : List ℕ) (i change j : ℕ) : Type 0 where
  pub front : (p : ℕ) → p < s.k → get_or word p 0 ≡ get_or f p 0
  pub done : (p : ℕ) → p < j → get_or word (s.k + p) 0 ≡ s.add (get_or f (s.k + p) 0) (s.mul change (coefficient s i p))
  pub later : (p : ℕ) → j ≤ p → get_or word (s.k + p) 0 ≡ get_or f (s.k + p) 0

pub unchanged : (s : Generator) (f : List ℕ) (i change : ℕ) → Changing s f f i change 0
unchanged s f i change = record { front = λ p l. refl; done = λ p l. absurd (omega arith); later = λ p l. refl }

module _ (s : Generator) {neg : ℕ → ℕ} (r : Ring s.q s.add neg s.mul) where
  pub change_more : (f word : List ℕ) (i change j p x : ℕ) → Changing s f word i change j → s.k + j < length word
      → get_or f (s.k + j) 0 < s.q → change < s.q
      → p ≡ s.mul (change % s.q) (coefficient s i j) → x ≡ s.add (get_or word (s.k + j) 0 % s.q) (p % s.q)
      → Changing s f (set word (s.k + j) x) i change (j + 1)
  change_more f word i change j p x h inside low few ep ex =
      let at : get_or word (s.k + j) 0 ≡ get_or f (s.k + j) 0 = h.later j (omega arith) in
      let here : get_or word (s.k + j) 0 < s.q = rw at low in
      let product : p ≡ s.mul change (coefficient s i j) = ep ∙ ap (λ z. s.mul z (coefficient s i j)) (mod-eq_of_lt few) in
      let p-low : p < s.q = rw product (r.mul_closed change (coefficient s i j) few (coefficient_low s r i j)) in
      let is : x ≡ s.add (get_or f (s.k + j) 0) (s.mul change (coefficient s i j)) =
      ex ∙ ap₂ s.add (mod-eq_of_lt here ∙ at) (mod-eq_of_lt p-low ∙ product) in
      record {
        front = λ y l. get_or-set_other word (s.k + j) y x 0 (λ e. omega arith) ∙ h.front y l;
        done = below_more _ _
            (λ y l. get_or-set_other word (s.k + j) (s.k + y) x 0 (λ e. omega arith) ∙ h.done y l)
            (get_or-set_same word (s.k + j) x 0 inside ∙ is);
        later = λ y l. get_or-set_other word (s.k + j) (s.k + y) x 0 (λ e. omega arith) ∙ h.later y (omega arith);
      }

  -- x plus the change from x to v is v
  pub change_is : (x v n c : ℕ) → x < s.q → v < s.q → n ≡ neg (x % s.q) → c ≡ s.add (v % s.q) (n % s.q) → (s.add x c ≡ v) × (c < s.q)
  change_is x v n c hx hv en ec =
      let n-is : n ≡ neg x = en ∙ ap neg (mod-eq_of_lt hx) in
      let n-low : neg x < s.q = r.neg_closed x hx in
      let c-is : c ≡ s.add v (neg x) = ec ∙ ap₂ s.add (mod-eq_of_lt hv) (mod-eq_of_lt (rw n-is n-low) ∙ n-is) in (
        ap (s.add x) (c-is ∙ r.add_comm v (neg x) hv n-low)
            ∙ sym (r.add_assoc x (neg x) v hx n-low hv)
            ∙ ap (λ z. s.add z v) (r.add-neg x hx)
            ∙ zero-add r v hv,
        rw c-is (r.add_closed v (neg x) hv n-low),
      )

  check_changed : (x y : ℕ → ℕ) (i c j : ℕ) → ((p : ℕ) → p < s.k → x p < s.q) → i < s.k → c < s.q → s.add (x i) c ≡ y i
      → ((p : ℕ) → p < s.k → p ≢ i → y p ≡ x p) → s.add (check s x j) (s.mul c (coefficient s i j)) ≡ check s y j
  check_changed x y i c j low inside few sum_is_lem same =
      let a : ℕ → ℕ = λ p. coefficient s p j in
      let A : (p : ℕ) → a p < s.q = λ p. coefficient_low s r p j in
      let X : ℕ → ℕ = λ p. s.mul (x p) (a p) in
      let D : ℕ → ℕ = λ p. cond (eqb p i) (s.mul c (a i)) 0 in
      let D-at : D i ≡ s.mul c (a i) = cond-true (eqb i i) _ _ (eq-eqb i i refl) in
      let D-other : (p : ℕ) → p ≢ i → D p ≡ 0 = λ p ne. cond-false (eqb p i) _ _ (ne_eqb p i ne) in
      let c-low : s.mul c (a i) < s.q = r.mul_closed c (a i) few (A i) in
      let X-low : (p : ℕ) → p < s.k → X p < s.q = λ p l. r.mul_closed (x p) (a p) (low p l) (A p) in
      let D-low : (p : ℕ) → p < s.k → D p < s.q =
      λ p l. elim (cases_eq p i) [ inl e ↦ rw (ap D e ∙ D-at) c-low | inr ne ↦ rw (D-other p ne) (zero_in r) ] in
      let each : (p : ℕ) → p < s.k → s.add (X p) (D p) ≡ s.mul (y p) (a p) =
      λ p l. elim (cases_eq p i) [
        | inl e ↦
            ap (λ z. s.add (X z) (D z)) e ∙ ap (s.add (X i)) D-at
            ∙ sym (add-mul s r (x i) c (a i) (low i inside) few (A i))
            ∙ ap (λ z. s.mul z (a i)) sum_is_lem
            ∙ ap (λ z. s.mul (y z) (a z)) (sym e)
        | inr ne ↦ ap (s.add (X p)) (D-other p ne) ∙ r.add-zero (X p) (X-low p l) ∙ ap (λ z. s.mul z (a p)) (sym (same p l ne))
      ] in
      ap (s.add (check s x j)) (sym (added-one r s.k D i inside (D-low i inside) (λ p l ne. D-other p ne) ∙ D-at))
      ∙ sym (added-add r s.k X D X-low D-low)
      ∙ added_same s.add s.k (λ p. s.add (X p) (D p)) (λ p. s.mul (y p) (a p)) each

  -- the word e with v at place i, and with so many times row i added to its check symbols
  module _ (e word : List ℕ) (i v c : ℕ) (tabled : Tabled s e) (inside : i < s.k) (low : v < s.q) (few : c < s.q)
      (sum_is_lem : s.add (get_or e i 0) c ≡ v) (sized : length word ≡ s.k + s.m)
      (front : (p : ℕ) → p < s.k → get_or word p 0 ≡ get_or (set e i v) p 0)
      (back : (p : ℕ) → p < s.m → get_or word (s.k + p) 0 ≡ s.add (get_or (set e i v) (s.k + p) 0 % s.q) (s.mul (c % s.q) (coefficient s i p) % s.q)) where
    here : get_or word i 0 ≡ v
    here = front i inside ∙ get_or-set_same e i v 0 (omega (arith, tabled.sized))

    others : (j : ℕ) → j < s.k → j ≢ i → get_or word j 0 ≡ get_or e j 0
    others j l ne = front j l ∙ get_or-set_other e i j v 0 ne

    front_low : (p : ℕ) → p < s.k → get_or word p 0 < s.q
    front_low p l =
        elim (cases_eq p i) [
          | inl z ↦ rw (ap (λ t. get_or word t 0) z ∙ here) low
          | inr ne ↦ rw (others p l ne) (tabled.symbols p (omega arith))
        ]

    checked : (j : ℕ) → j < s.m → get_or word (s.k + j) 0 ≡ check s (λ p. get_or word p 0) j
    checked j l =
        let behind : get_or (set e i v) (s.k + j) 0 ≡ get_or e (s.k + j) 0 = get_or-set_other e i (s.k + j) v 0 (λ z. omega arith) in
        back j l
        ∙ ap₂ s.add
        (ap (λ z. z % s.q) behind ∙ mod-eq_of_lt (tabled.symbols (s.k + j) (omega arith)) ∙ tabled.checks j l)
        (ap (λ z. s.mul z (coefficient s i j) % s.q) (mod-eq_of_lt few) ∙ mod-eq_of_lt (r.mul_closed c (coefficient s i j) few (coefficient_low s r i j)))
        ∙ check_changed (λ p. get_or e p 0) (λ p. get_or word p 0) i c j (λ p b. tabled.symbols p (omega arith)) inside few (sum_is_lem ∙ sym here) others

    pub added_tabled : Tabled s word
    added_tabled = record {
      sized = sized;
      symbols = λ p l. elim (cases_lt p s.k) [
        | inl b ↦ front_low p b
        | inr g ↦
            let z : s.k + (p - s.k) ≡ p = omega arith in
            subst (λ (t : ℕ). get_or word t 0 < s.q) z (rw (checked (p - s.k) (omega arith)) (check_low s r (λ t. get_or word t 0) (p - s.k) front_low))
      ];
      checks = checked;
    }

  -- the same in the words of the turns: the row has been added to all check symbols
  module _ (e word : List ℕ) (i v c : ℕ) (tabled : Tabled s e) (inside : i < s.k) (low : v < s.q) (few : c < s.q)
      (sum_is_lem : s.add (get_or e i 0) c ≡ v) (sized : length word ≡ s.k + s.m) (h : Changing s (set e i v) word i c s.m) where
    pub changed_here : get_or word i 0 ≡ v
    changed_here = h.front i inside ∙ get_or-set_same e i v 0 (omega (arith, tabled.sized))

    pub changed_others : (j : ℕ) → j < s.k → j ≢ i → get_or word j 0 ≡ get_or e j 0
    changed_others j l ne = h.front j l ∙ get_or-set_other e i j v 0 ne

    behind : (j : ℕ) → get_or (set e i v) (s.k + j) 0 ≡ get_or e (s.k + j) 0
    behind j = get_or-set_other e i (s.k + j) v 0 (λ z. omega arith)

    pub changed_tabled : Tabled s word
    changed_tabled =
        added_tabled e word i v c tabled inside low few sum_is_lem sized h.front (λ p l.
        let below : get_or (set e i v) (s.k + p) 0 < s.q = rw (behind p) (tabled.symbols (s.k + p) (omega arith)) in
        h.done p l
        ∙ ap₂ s.add
        (sym (mod-eq_of_lt below))
        (sym (mod-eq_of_lt (r.mul_closed c (coefficient s i p) few (coefficient_low s r i p))) ∙ ap (λ z. s.mul z (coefficient s i p) % s.q) (sym (mod-eq_of_lt few))))
