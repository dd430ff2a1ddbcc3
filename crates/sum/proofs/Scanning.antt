-- A scan goes on by one cell, a blank or a symbol. Assumes nothing.
use Rattle.std.proofs.Common.{T, subst, Option, Some, None, is_some, false, lit<, ◌≡◌, ℕ, ◌+◌, ◌%◌, ◌<◌, ◌≤◌, true, ◌≢◌, List, length, get_or, sym, ap, ◌∙◌, ap₂, mod-eq_of_lt, add-one, arith}
use Rattle.std.proofs.lemmas.Bool.Decides.{nat_tests}
use Rattle.alphabet.specs.Rings.{Ring}
use Rattle.alphabet.specs.Sums.{added, sum}
use Rattle.alphabet.proofs.Additions.{added_closed}
use Rattle.alphabet.proofs.Sums.{sum_more, two_places, sum_same, sum_constant}
use Rattle.alphabet.proofs.Symbols.{zero_in}
use Rattle.code.specs.Cells.{blank, faint, good, Holds, blanks}
use Rattle.code.specs.declared.cells.Content.TheVariants.{Word, Received}
use Rattle.sum.specs.Scans.{shown, Tally, tally, Scanned}

pub shown_below : (q x : ℕ) → 0 < q → good Received q x ≡ true → shown x < q
shown_below q x some h = grind (arith, nat_tests)

shown-blank : (x : ℕ) → x ≡ blank → (shown x ≡ 0) × (faint x ≡ 1)
shown-blank x e = (grind (arith, nat_tests), grind (arith, nat_tests))

pub faint-one : (x : ℕ) → x ≡ blank → 1 ≤ faint x
faint-one x e = omega (arith, (shown-blank x e).1)

shown_symbol : (x : ℕ) → x ≢ blank → (shown x ≡ x) × (faint x ≡ 0)
shown_symbol x e = (grind (arith, nat_tests), grind (arith, nat_tests))

module _ {q : ℕ} {add : ℕ → ℕ → ℕ} {neg : ℕ → ℕ} {mul : ℕ → ℕ → ℕ} (ring : Ring q add neg mul) (r : List ℕ) (clean : Holds Received q r) where
  pub each_below : (j : ℕ) → j < length r → shown (get_or r j 0) < q
  each_below j l = shown_below q (get_or r j 0) (zero_in ring) (clean j l)

  pub total_below : (i : ℕ) → i ≤ length r → added add i (λ j. shown (get_or r j 0)) < q
  total_below i h = added_closed ring i (λ j. shown (get_or r j 0)) (λ j l. each_below j (omega arith))

  added_more : (i : ℕ) (f : ℕ → ℕ) → added add (i + 1) f ≡ add (added add i f) (f i)
  added_more i f = ap (λ m. added add m f) (add-one i)

  pub scan_blank : (i : ℕ) (s : Tally) → i < length r → Scanned add r i s → get_or r i 0 ≡ blank
      → Scanned add r (i + 1) (record { total = s.total; blanks = s.blanks + 1; hole = i })
  scan_blank i s l h e =
      let f : ℕ → ℕ = λ j. shown (get_or r j 0) in
      let here = shown-blank (get_or r i 0) e in
      record {
        total = h.total
            ∙ sym (ring.add-zero (added add i f) (total_below i (omega arith)))
            ∙ ap (add (added add i f)) (sym here.0)
            ∙ sym (added_more i f);
        blanks = omega (arith, h.blanks, sum_more i (λ j. faint (get_or r j 0)), here.1);
        inside = λ some. omega arith;
        hole = λ some. e;
      }

  pub scan_symbol : (i t : ℕ) (s : Tally) → i < length r → Scanned add r i s → get_or r i 0 ≢ blank → t ≡ add (s.total % q) (get_or r i 0 % q)
      → Scanned add r (i + 1) (record { total = t; blanks = s.blanks; hole = s.hole })
  scan_symbol i t s l h ne sum_is_lem =
      let f : ℕ → ℕ = λ j. shown (get_or r j 0) in
      let here = shown_symbol (get_or r i 0) ne in
      let one : s.total < q = rw h.total (total_below i (omega arith)) in
      let two : get_or r i 0 < q = omega (arith, each_below i l, here.0) in
      record {
        total = sum_is_lem ∙ ap₂ add (mod-eq_of_lt one ∙ h.total) (mod-eq_of_lt two ∙ sym here.0) ∙ sym (added_more i f);
        blanks = omega (arith, h.blanks, sum_more i (λ j. faint (get_or r j 0)), here.1);
        inside = λ some. omega (arith, h.inside some);
        hole = h.hole;
      }

  -- the first blank is the hole
  pub first_blank : (i t : ℕ) (h : Option ℕ) → is_some h ≡ false → i < length r → Scanned add r i (tally (record { total = t; hole = h })) → get_or r i 0 ≡ blank
      → Scanned add r (i + 1) (tally (record { total = t; hole = Some i }))
  first_blank i t (Some h) none l s e = absurd (subst T none tt)
  first_blank i t None none l s e = scan_blank i (tally (record { total = t; hole = None })) l s e

  -- and a second one makes two
  pub second_blank : (i t : ℕ) (h : Option ℕ) → is_some h ≡ true → i < length r → Scanned add r i (tally (record { total = t; hole = h })) → get_or r i 0 ≡ blank → 2 ≤ blanks r
  second_blank i t None some l s e = absurd (subst T (sym some) tt)
  second_blank i t (Some h) some l s e =
      let there : h < i = s.inside (lit< tt) in
      omega (arith, two_places (length r) (λ j. faint (get_or r j 0)) i h l (omega arith) (λ z. omega arith) (faint-one (get_or r i 0) e) (faint-one (get_or r h 0) (s.hole (lit< tt))))

-- ---- cells that hold symbols only
tame : (q x : ℕ) → q ≤ blank → good Word q x ≡ true → (good Received q x ≡ true) × (faint x ≡ 0)
tame q x few h = (grind (arith, nat_tests), grind (arith, nat_tests))

pub word-clean : (q : ℕ) (r : List ℕ) → q ≤ blank → Holds Word q r → Holds Received q r
word-clean q r few h i l = (tame q (get_or r i 0) few (h i l)).0

pub no_blanks : (q : ℕ) (r : List ℕ) → q ≤ blank → Holds Word q r → sum (length r) (λ i. faint (get_or r i 0)) ≡ 0
no_blanks q r few h =
    let none = sum_same (length r) (λ i. faint (get_or r i 0)) (λ i. 0) (λ i l. (tame q (get_or r i 0) few (h i l)).1) in
    omega (arith, none, sum_constant (length r) 0)

module _ {q : ℕ} {add : ℕ → ℕ → ℕ} {neg : ℕ → ℕ} {mul : ℕ → ℕ → ℕ} (ring : Ring q add neg mul) (r : List ℕ)
    (words : Holds Word q r) where
  symbol_below : (i : ℕ) → i < length r → get_or r i 0 < q
  symbol_below i l = let e = words i l in grind (arith, nat_tests)

  -- one symbol more is added up
  pub add_more : (i t x : ℕ) → i < length r → t ≡ added add i (λ j. get_or r j 0) → x ≡ add (t % q) (get_or r i 0 % q)
      → x ≡ added add (i + 1) (λ j. get_or r j 0)
  add_more i t x l e ex =
      let f : ℕ → ℕ = λ j. get_or r j 0 in
      let low : t < q = rw e (added_closed ring i f (λ j m. symbol_below j (omega arith))) in
      ex ∙ ap₂ add (mod-eq_of_lt low ∙ e) (mod-eq_of_lt (symbol_below i l)) ∙ sym (ap (λ m. added add m f) (add-one i))

-- what a scan says, where its hole is known
pub at_hole : (add : ℕ → ℕ → ℕ) (r : List ℕ) (n t : ℕ) (h h' : Option ℕ) → h ≡ h' → Scanned add r n (tally (record { total = t; hole = h })) → Scanned add r n (tally (record { total = t; hole = h' }))
at_hole add r n t h h' e told = subst (λ (o : Option ℕ). Scanned add r n (tally (record { total = t; hole = o }))) e told
