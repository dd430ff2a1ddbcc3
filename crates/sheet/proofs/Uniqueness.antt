-- After any calls one row of marks stands. Assumes nothing.
use Rattle.std.proofs.Common.{◌≡◌, ℕ, ◌<◌, cond, eqb, ltb, List, [], ◌∷◌, ◌++◌, sym, refl, ap, ◌∙◌, arith}
use Rattle.std.proofs.lemmas.List.{ext_get_or}
use Rattle.std.proofs.lemmas.Bool.Decides.{nat_tests}
use Rattle.code.specs.Cells.{blank}
use Rattle.sheet.specs.declared.calls.Call.{Call}
use Rattle.sheet.specs.declared.calls.Call.TheVariants.{Put, Blot, Wipe, Read}
use Rattle.sheet.specs.Marks.{Writes, Spares, Quiet, Stands, Stands.written, Stands.wiped, Stands.unmarked, OneRowStands}

-- what stands at p after one call, where v stood before
step : (q n p v : ℕ) → Call → ℕ
step q n p v (Put i s) = cond (eqb i p) (cond (ltb i n) (cond (ltb s q) s v) v) v
step q n p v (Blot i) = cond (eqb i p) (cond (ltb i n) blank v) v
step q n p v Wipe = blank
step q n p v Read = v

steps : (q n p v : ℕ) → List Call → ℕ
steps q n p v [] = v
steps q n p v (c ∷ cs) = steps q n p (step q n p v c) cs

step_writes : (q n p u v : ℕ) (c : Call) → Writes q n c p v → step q n p u c ≡ v
unfolding step
step_writes q n p u v (Put i s) w = let a = w.0 in let b = w.1 in let d = w.2 in let e = w.3 in grind (arith, nat_tests)
step_writes q n p u v (Blot i) w = let a = w.0 in let b = w.1 in let e = w.2 in grind (arith, nat_tests)
step_writes q n p u v Wipe w = absurd w
step_writes q n p u v Read w = absurd w

spare_put : (q n p v i s : ℕ) → (i ≡ p → i < n → s < q → ⊥) → cond (eqb i p) (cond (ltb i n) (cond (ltb s q) s v) v) v ≡ v
spare_put q n p v i s h = grind (arith, nat_tests)

spare_blot : (n p v i : ℕ) → (i ≡ p → i < n → ⊥) → cond (eqb i p) (cond (ltb i n) blank v) v ≡ v
spare_blot n p v i h = grind (arith, nat_tests)

step_spares : (q n p v : ℕ) (c : Call) → Spares q n p c → step q n p v c ≡ v
unfolding step
step_spares q n p v (Put i s) h = spare_put q n p v i s (λ a b d. h s (a, b, d, refl))
step_spares q n p v (Blot i) h = spare_blot n p v i (λ a b. h blank (a, b, refl))
step_spares q n p v Wipe h = absurd h
step_spares q n p v Read h = refl

steps_quiet : (q n p v : ℕ) (cs : List Call) → Quiet q n p cs → steps q n p v cs ≡ v
unfolding steps
steps_quiet q n p v [] h = refl
steps_quiet q n p v (c ∷ cs) h = ap (λ (x : ℕ). steps q n p x cs) (step_spares q n p v c h.0) ∙ steps_quiet q n p v cs h.1

steps_at : (q n p u v : ℕ) (b : List Call) (c : Call) (a : List Call) → ((x : ℕ) → step q n p x c ≡ v) → Quiet q n p a → steps q n p u (b ++ (c ∷ a)) ≡ v
unfolding steps
steps_at q n p u v [] c a w t = steps_quiet q n p (step q n p u c) a t ∙ w u
steps_at q n p u v (d ∷ b) c a w t = steps_at q n p (step q n p u d) v b c a w t

stands_is : (q n : ℕ) (h : List Call) (p v : ℕ) → Stands q n h p v → steps q n p blank h ≡ v
unfolding step steps
stands_is q n h p v (written b c a e w t) = ap (λ (x : List Call). steps q n p blank x) e ∙ steps_at q n p blank v b c a (λ x. step_writes q n p x v c w) t
stands_is q n h p v (wiped b a e t z) = ap (λ (x : List Call). steps q n p blank x) e ∙ (steps_at q n p blank blank b Wipe a (λ x. refl) t ∙ sym z)
stands_is q n h p v (unmarked t z) = steps_quiet q n p blank h t ∙ sym z

pub one_row_stands : OneRowStands
one_row_stands q n h xs ys m k =
    ext_get_or 0 xs ys (m.sized ∙ sym k.sized)
    (λ p l.
    let lt : p < n = omega (arith, m.sized) in
    sym (stands_is q n h p _ (m.stands p lt)) ∙ stands_is q n h p _ (k.stands p lt))
