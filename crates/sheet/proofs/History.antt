-- One call more: where the sheet's cells are the marks standing after the calls h, they are those standing after h and the call. Assumes nothing.
use Rattle.std.proofs.Common.{◌≡◌, ℕ, ◌<◌, ◌≤◌, Bool, true, false, cond, ◌≢◌, List, [], ◌∷◌, ◌++◌, length, get_or, take, drop, set, replicate, is_ok, sym, refl, ap, ◌∙◌, subst, inl, inr, append_assoc, arith, length-set, get_or-set_other, get_or-set_same, take_at}
use lib.ListN.{length-replicate, get_or-replicate}
use lib.Seq.{take-set-lt}
use Rattle.std.proofs.lemmas.Bool.{cases_eq, cases_lt}
use Rattle.std.proofs.lemmas.Bool.Decides.{nat_tests}
use Rattle.code.specs.Cells.{blank}
use Rattle.sheet.specs.declared.calls.Call.{Call}
use Rattle.sheet.specs.declared.calls.Call.TheVariants.{Put, Blot, Wipe, Read}
use Rattle.sheet.specs.Marks.{Writes, Spares, Quiet, Stands, Stands.written, Stands.wiped, Stands.unmarked, Marks, Marked}
use Rattle.sheet.specs.declared.marks.Sheet.{Sheet}
use Rattle.sheet.specs.Runs.{putting, blotting, left}
use Rattle.sheet.specs.Sheets.{symbols, places, all_cells, marks, Becomes}

module _ (q n : ℕ) where
  quiet_more : (p : ℕ) (cs : List Call) (c : Call) → Quiet q n p cs → Spares q n p c → Quiet q n p (cs ++ (c ∷ []))
  quiet_more p [] c h s = (s, tt)
  quiet_more p (x ∷ cs) c h s = (h.0, quiet_more p cs c h.1 s)

  longer : (h before : List Call) (c : Call) (after : List Call) (d : Call) → h ≡ before ++ (c ∷ after) → h ++ (d ∷ []) ≡ before ++ (c ∷ (after ++ (d ∷ [])))
  longer h before c after d e = ap (λ (x : List Call). x ++ (d ∷ [])) e ∙ append_assoc before (c ∷ after) (d ∷ [])

  -- a call that spares the place leaves what stands there
  spared : (h : List Call) (p v : ℕ) (c : Call) → Spares q n p c → Stands q n h p v → Stands q n (h ++ (c ∷ [])) p v
  spared h p v c s (written before d after e w t) = written before d (after ++ (c ∷ [])) (longer h before d after c e) w (quiet_more p after c t s)
  spared h p v c s (wiped before after e t b) = wiped before (after ++ (c ∷ [])) (longer h before Wipe after c e) (quiet_more p after c t s) b
  spared h p v c s (unmarked t b) = unmarked (quiet_more p h c t s) b

  all_spared : (h : List Call) (xs : List ℕ) (c : Call) → ((p : ℕ) → p < n → Spares q n p c) → Marks q n h xs → Marks q n (h ++ (c ∷ [])) xs
  all_spared h xs c s m = record { sized = m.sized; stands = λ p lt. spared h p (get_or xs p 0) c (s p lt) (m.stands p lt) }

  -- a call that writes v at i, and spares every other place
  one_written : (h : List Call) (xs : List ℕ) (c : Call) (i v : ℕ) → i < n → Writes q n c i v → ((p : ℕ) → p ≢ i → Spares q n p c) → Marks q n h xs → Marks q n (h ++ (c ∷ [])) (set xs i v)
  one_written h xs c i v lt w s m =
      record {
        sized = simp length-set m.sized;
        stands = λ p pn.
            elim (cases_eq p i) [
              | inl e ↦
                  let inside : i < length xs = omega (arith, m.sized) in
                  let P : ℕ → Type 0 = λ x. Stands q n (h ++ (c ∷ [])) x (get_or (set xs i v) x 0) in
                  subst P (sym e) (rw (get_or-set_same xs i v 0 inside) (written h c [] refl w tt))
              | inr ne ↦ rw (get_or-set_other xs i p v 0 ne) (spared h p (get_or xs p 0) c (s p ne) (m.stands p pn))
            ];
      }

  -- the cells that are blank all over
  pub blanks_stand : (h : List Call) (xs : List ℕ) → ((p : ℕ) → Stands q n h p blank) → xs ≡ replicate n blank → Marks q n h xs
  blanks_stand h xs b e =
      record {
        sized = ap length e ∙ length-replicate n blank;
        stands = λ p lt. subst (λ (v : ℕ). Stands q n h p v) (sym (ap (λ (ys : List ℕ). get_or ys p 0) e ∙ get_or-replicate n p blank 0 lt)) (b p);
      }

  pub all_wiped : (h : List Call) (xs : List ℕ) → xs ≡ replicate n blank → Marks q n (h ++ (Wipe ∷ [])) xs
  all_wiped h xs e = blanks_stand (h ++ (Wipe ∷ [])) xs (λ p. wiped h [] refl tt refl) e

  pub none_made : (xs : List ℕ) → xs ≡ replicate n blank → Marks q n [] xs
  none_made xs e = blanks_stand [] xs (λ p. unmarked tt refl) e

  put_taken : (i s : ℕ) → i < n → s < q → is_ok (putting q n i s) ≡ true
  put_taken i s l h = grind (arith, nat_tests)

  put_refused : (i s : ℕ) → (i < n → s < q → ⊥) → is_ok (putting q n i s) ≡ false
  put_refused i s never = grind (arith, nat_tests)

  blot_taken : (i : ℕ) → i < n → is_ok (blotting n i) ≡ true
  blot_taken i l = grind (arith, nat_tests)

  blot_refused : (i : ℕ) → (i < n → ⊥) → is_ok (blotting n i) ≡ false
  blot_refused i never = grind (arith, nat_tests)

  After : List Call → Call → List ℕ → Type 0
  After h c xs = Marks q n (h ++ (c ∷ [])) (take n xs)

  refused : (h : List Call) (c : Call) (xs ys : List ℕ) (b : Bool) → b ≡ false → ((p : ℕ) → p < n → Spares q n p c) → Marks q n h (take n xs) → After h c (cond b ys xs)
  unfolding After
  refused h c xs ys b e s m = rw e (all_spared h (take n xs) c s m)

  accepted : (h : List Call) (c : Call) (xs : List ℕ) (b : Bool) (i v : ℕ) → b ≡ true → i < n → Writes q n c i v → ((p : ℕ) → p ≢ i → Spares q n p c) → Marks q n h (take n xs) → After h c (cond b (set xs i v) xs)
  unfolding After
  accepted h c xs b i v e l w s m = rw e (rw (take-set-lt n xs i v l) (one_written h (take n xs) c i v l w s m))

  pub one_more : (h : List Call) (c : Call) (xs : List ℕ) → n ≤ length xs → Marks q n h (take n xs) → Marks q n (h ++ (c ∷ [])) (take n (left q n c xs))
  unfolding After
  one_more h (Put i s) xs fits m =
      elim (cases_lt i n) [
        | inl l ↦ elim (cases_lt s q) [
          | inl k ↦ accepted h (Put i s) xs (is_ok (putting q n i s)) i s (put_taken i s l k) l (refl, l, k, refl) (λ p ne v w. ne (sym w.0)) m
          | inr g ↦ refused h (Put i s) xs (set xs i s) (is_ok (putting q n i s)) (put_refused i s (λ a b. omega arith)) (λ p lt v w. omega (arith, w.2)) m
        ]
        | inr g ↦ refused h (Put i s) xs (set xs i s) (is_ok (putting q n i s)) (put_refused i s (λ a b. omega arith)) (λ p lt v w. omega (arith, w.1)) m
      ]
  one_more h (Blot i) xs fits m =
      elim (cases_lt i n) [
        | inl l ↦ accepted h (Blot i) xs (is_ok (blotting n i)) i blank (blot_taken i l) l (refl, l, refl) (λ p ne v w. ne (sym w.0)) m
        | inr g ↦ refused h (Blot i) xs (set xs i blank) (is_ok (blotting n i)) (blot_refused i (λ a. omega arith)) (λ p lt v w. omega (arith, w.1)) m
      ]
  one_more h Wipe xs fits m = all_wiped h (take n (replicate n blank ++ drop n xs)) (take_at (replicate n blank) (drop n xs) n (length-replicate n blank))
  one_more h Read xs fits m = all_spared h (take n xs) Read (λ p lt. tt) m

  pub marked : (h : List Call) (c : Call) (xs ys : List ℕ) → n ≤ length xs → ys ≡ left q n c xs → Marks q n h (take n xs) → Marks q n (h ++ (c ∷ [])) (take n ys)
  marked h c xs ys fits e m = rw e (one_more h c xs fits m)

  -- a sheet right after its opening over the cells xs
  pub fresh : (xs ys : List ℕ) → ys ≡ left q n Wipe xs → Marks q n [] (take n ys)
  fresh xs ys e = none_made (take n ys) (ap (take n) e ∙ take_at (replicate n blank) (drop n xs) n (length-replicate n blank))

-- the marks of a sheet that becomes another by a call
pub called : (c : Call) (s t : Sheet) → Becomes c s t → Marked (symbols s) (places s) c (marks s) (marks t)
called c s t b h m =
    let e : marks t ≡ take (places s) (all_cells t) = ap (λ (n : ℕ). take n (all_cells t)) b.same.n in
    rw e (marked (symbols s) (places s) h c (all_cells s) (all_cells t) s.within b.leaves m)
