-- What a scan of received cells tells: the word itself, the word with its one blank filled in, or that none is within reach. Assumes nothing.
use Rattle.std.proofs.Common.{◌≡◌, ℕ, ◌%◌, ◌<◌, ◌≤◌, cond, eqb, ◌≢◌, List, length, get_or, set, sym, refl, ap, ◌∙◌, subst, ap₂, inl, inr, mod-eq_of_lt, arith, length-set, get_or-set_other, get_or-set_same}
use Rattle.std.proofs.lemmas.Bool.{cases_eq, cases_lt}
use Rattle.std.proofs.lemmas.Bool.Decides.{nat_tests}
use Rattle.alphabet.specs.Rings.{Ring}
use Rattle.alphabet.specs.Sums.{added}
use Rattle.alphabet.proofs.Additions.{added_same, added-add, added-one}
use Rattle.alphabet.proofs.Sums.{sum_same, sum_constant, one_place, two_places}
use Rattle.alphabet.proofs.Symbols.{zero_in, zero-add}
use Rattle.code.specs.Cells.{Holds, blank, wrong, faint, wrongs, cost}
use Rattle.code.specs.Calls.{Within, Beyond}
use Rattle.code.proofs.Costs.{within}
use Rattle.code.specs.declared.cells.Content.TheVariants.{Received}
use Rattle.sum.specs.Balance.{Balanced, balances}
use Rattle.sum.specs.Scans.{shown, Tally, Scanned}
use Rattle.sum.specs.BalanceLemmas.{balances_apart}
use Rattle.sum.proofs.Scanning.{each_below, total_below, faint-one}

-- one cell
unfaint : (x : ℕ) → faint x ≡ 0 → (shown x ≡ x) × (x ≢ blank)
unfaint x e = (grind (arith, nat_tests), λ z. grind (arith, nat_tests))

hidden : (x : ℕ) → x ≡ blank → shown x ≡ 0
hidden x e = grind (arith, nat_tests)

plain : (x : ℕ) → x ≢ blank → shown x ≡ x
plain x ne = grind (arith, nat_tests)

right : (x y : ℕ) → wrong x y ≡ 0 → x ≢ blank → x ≡ y
right x y e ne = grind (arith, nat_tests)

same_right : (x y : ℕ) → (x ≢ blank → x ≡ y) → wrong x y ≡ 0
same_right x y h = elim (cases_eq x blank) [ inl e ↦ grind (arith, nat_tests) | inr ne ↦ let e = h ne in grind (arith, nat_tests) ]

-- where every cell that could be read is right, none is wrong
no_wrongs : (r w : List ℕ) → ((i : ℕ) → i < length r → get_or r i 0 ≢ blank → get_or r i 0 ≡ get_or w i 0) → 0 ≡ wrongs r w
no_wrongs r w h =
    let none = sum_same (length r) (λ i. wrong (get_or r i 0) (get_or w i 0)) (λ i. 0) (λ i l. same_right (get_or r i 0) (get_or w i 0) (h i l)) in
    omega (arith, none, sum_constant (length r) 0)

module _ {q : ℕ} {add : ℕ → ℕ → ℕ} {neg : ℕ → ℕ} {mul : ℕ → ℕ → ℕ} (ring : Ring q add neg mul) (n : ℕ) (long : 2 ≤ n)
    (r : List ℕ) (sized : length r ≡ n) (clean : Holds Received q r) (s : Tally) (told : Scanned add r (length r) s) where
  abbrev F : ℕ → ℕ
  F i = shown (get_or r i 0)

  -- ---- no blank
  module _ (none : s.blanks ≡ 0) where
    clear : (i : ℕ) → i < length r → (F i ≡ get_or r i 0) × (get_or r i 0 ≢ blank)
    clear i l = unfaint (get_or r i 0) (omega (arith, one_place (length r) (λ j. faint (get_or r j 0)) i l, told.blanks))

    whole : added add n (λ i. get_or r i 0) ≡ s.total
    whole =
        ap (λ m. added add m (λ i. get_or r i 0)) (sym sized)
        ∙ added_same add (length r) (λ i. get_or r i 0) F (λ i l. sym (clear i l).0)
        ∙ sym told.total

    pub balanced : s.total ≡ 0 → Balanced add q n r
    balanced e = record {
      sized = sized;
      symbols = λ i l. let m : i < length r = omega arith in subst (λ (x : ℕ). x < q) (clear i m).0 (each_below ring r clean i m);
      balance = whole ∙ e;
    }

    pub total_of : Balanced add q n r → s.total ≡ 0
    total_of h = sym whole ∙ h.balance

    pub read_whole : s.total ≡ 0 → Within (balances add q n) r r (record { wrong = 0; blank = 0 })
    read_whole e =
        within (balances add q n) (balances_apart ring n long) r sized r (record { wrong = 0; blank = 0 })
        (balanced e) (no_wrongs r r (λ i l ne. refl)) (sym none ∙ told.blanks) (omega arith)

    pub unbalanced : s.total ≢ 0 → Beyond (balances add q n) r
    unbalanced ne v h =
        elim (cases_lt (cost r v) 2) [
          | inl l ↦
              let right-at : (i : ℕ) → i < length r → get_or r i 0 ≡ get_or v i 0 =
              λ i m. right (get_or r i 0) (get_or v i 0) (omega (arith, one_place (length r) (λ j. wrong (get_or r j 0) (get_or v j 0)) i m)) (clear i m).1 in
              absurd (ne (sym whole ∙ added_same add n (λ i. get_or r i 0) (λ i. get_or v i 0) (λ i m. right-at i (omega arith)) ∙ h.balance))
          | inr g ↦ g
        ]

  -- ---- one blank, at the hole
  module _ (one : s.blanks ≡ 1) where
    inside : s.hole < length r
    inside = told.inside (omega arith)

    elsewhere : (i : ℕ) → i < length r → i ≢ s.hole → get_or r i 0 ≢ blank
    elsewhere i l ne e =
        omega (arith, two_places (length r) (λ j. faint (get_or r j 0)) i s.hole l inside ne (faint-one (get_or r i 0) e) (faint-one (get_or r s.hole 0) (told.hole (omega arith))), told.blanks)

    total_low : s.total < q
    total_low = rw told.total (total_below ring r clean (length r) (omega arith))

    -- the cells with v at the hole
    module _ (v : ℕ) (balancing : v ≡ neg (s.total % q)) where
      v_is : v ≡ neg s.total
      v_is = balancing ∙ ap neg (mod-eq_of_lt total_low)

      pub filled : Balanced add q n (set r s.hole v)
      filled =
          let w : List ℕ = set r s.hole v in
          let at : get_or w s.hole 0 ≡ v = get_or-set_same r s.hole v 0 inside in
          let other : (i : ℕ) → i ≢ s.hole → get_or w i 0 ≡ get_or r i 0 = λ i ne. get_or-set_other r s.hole i v 0 ne in
          let H : ℕ → ℕ = λ i. cond (eqb i s.hole) v 0 in
          let low : v < q = rw v_is (ring.neg_closed s.total total_low) in
          let H-at : H s.hole ≡ v = grind (arith, nat_tests) in
          let H-other : (i : ℕ) → i ≢ s.hole → H i ≡ 0 = λ i ne. grind (arith, nat_tests) in
          let H-low : (i : ℕ) → i < length r → H i < q =
          λ i l. elim (cases_eq i s.hole) [ inl e ↦ rw (ap H e ∙ H-at) low | inr ne ↦ rw (H-other i ne) (zero_in ring) ] in
          let F-low : (i : ℕ) → i < length r → F i < q = λ i l. each_below ring r clean i l in
          let cell : (i : ℕ) → i < length r → get_or w i 0 ≡ add (F i) (H i) =
          λ i l. elim (cases_eq i s.hole) [
            | inl e ↦
                ap (λ j. get_or w j 0) e ∙ at
                ∙ sym (zero-add ring v low)
                ∙ ap₂ add (sym (ap F e ∙ hidden (get_or r s.hole 0) (told.hole (omega arith)))) (sym (ap H e ∙ H-at))
            | inr ne ↦
                other i ne
                ∙ sym (plain (get_or r i 0) (elsewhere i l ne))
                ∙ sym (ring.add-zero (F i) (F-low i l))
                ∙ ap (add (F i)) (sym (H-other i ne))
          ] in
          record {
            sized = length-set r s.hole v ∙ sized;
            symbols = λ i l.
                let m : i < length r = omega arith in
                rw (cell i m) (ring.add_closed (F i) (H i) (F-low i m) (H-low i m));
            balance =
                ap (λ m. added add m (λ i. get_or w i 0)) (sym sized)
                ∙ added_same add (length r) (λ i. get_or w i 0) (λ i. add (F i) (H i)) cell
                ∙ added-add ring (length r) F H F-low H-low
                ∙ ap₂ add (sym told.total) (added-one ring (length r) H s.hole inside (H-low s.hole inside) (λ i l ne. H-other i ne) ∙ H-at ∙ v_is)
                ∙ ring.add-neg s.total total_low;
          }

      pub read_filled : Within (balances add q n) r (set r s.hole v) (record { wrong = 0; blank = 1 })
      read_filled =
          within (balances add q n) (balances_apart ring n long) r sized (set r s.hole v) (record { wrong = 0; blank = 1 })
          filled
          (no_wrongs r (set r s.hole v) (λ i l ne. sym (get_or-set_other r s.hole i v 0 (λ e. ne (ap (λ j. get_or r j 0) e ∙ told.hole (omega arith))))))
          (sym one ∙ told.blanks) (omega arith)
