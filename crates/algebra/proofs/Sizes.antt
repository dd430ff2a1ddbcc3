-- The numbers of a product, as its calls answer them, and the gate of its sizes. Assumes nothing.
use Rattle.std.proofs.Common.{◌≡◌, ℕ, ◌<◌, ◌≤◌, min, ltb, Ok, Err, sym, refl, ap, ◌∙◌, inl, inr, arith, ◌+◌, ◌*◌, max, cond, eqb, IfOk}
use Rattle.std.proofs.lemmas.Bool.{cases_lt, cond-false, le-ltb, lt-ltb, cases_eq, cond-true, eq-eqb, ne_eqb}
use Rattle.code.specs.declared.refusals.Reason.TheVariants.{Oversize, Misfit, WrongTray, Cramped}
use Rattle.code.specs.Codes.{Codebook}
use Rattle.code.specs.Calls.{answered, answered_working}
use Rattle.code.specs.Refusals.{sized, refusal}
use Rattle.code.specs.Refusals.{Verdict}

-- the check of sizes by its numbers: what is lent, and what is asked for
abbrev pub gauge : (n w i i' a a' k k' : ℕ) → Verdict
gauge n w i i' a a' k k' = sized n w (record { input = i; answer = a; working = k }) (record { input = i'; answer = a'; working = k' })

pub room_of : (s : Codebook) (u : ℕ) → u ≡ answered_working s → s.n ≤ 4096 → u ≡ min s.working 16385
room_of s u e h = e ∙ cond-false (ltb 4096 s.n) 16385 (min s.working 16385) (le-ltb 4096 s.n h)

capped : (a b x : ℕ) → x ≡ min b 16385 → min (a + x) 16385 ≡ min (a + b) 16385
capped a b x k = omega arith

-- the working cells of a product, from capped parts
pub room_capped : (n1 n2 w1 w2 u1 u2 m y : ℕ) → u1 ≡ min w1 16385 → u2 ≡ min w2 16385 → m ≡ max u1 u2 → y ≡ min (n1 * n2 + n2 + 2 * max n1 n2 + m) 16385
    → y ≡ min (n1 * n2 + n2 + 2 * max n1 n2 + max w1 w2) 16385
room_capped n1 n2 w1 w2 u1 u2 m y p q r e =
    let k : m ≡ min (max w1 w2) 16385 = omega arith in
    e ∙ capped (n1 * n2 + n2 + 2 * max n1 n2) (max w1 w2) m k

over : (n room i i' a a' w w' : ℕ) → 4096 < n → gauge n room i i' a a' w w' ≡ Err (refusal Oversize 0)
over n room i i' a a' w w' l = rw (lt-ltb 4096 n l) refl

roomy : (n room i i' a a' w w' : ℕ) → n ≤ 4096 → 16384 < room → gauge n room i i' a a' w w' ≡ Err (refusal Oversize 0)
roomy n room i i' a a' w w' h l = rw (le-ltb 4096 n h, lt-ltb 16384 room l) refl

-- an open gate keeps the limits
pub within_limits : (n room i i' a a' w w' : ℕ) → ◌≡◌ {A = Verdict} (Ok tt) (gauge n room i i' a a' w w') → (n ≤ 4096) × (room ≤ 16384)
within_limits n room i i' a a' w w' e =
    elim (cases_lt 4096 n) [
      | inl l ↦ let x : ◌≡◌ {A = Verdict} (Ok tt) (Err (refusal Oversize 0)) = e ∙ over n room i i' a a' w w' l in let z : ◌≡◌ {A = ℕ} 0 1 = cc in absurd (omega arith)
      | inr h ↦ elim (cases_lt 16384 room) [
        | inl l ↦ let x : ◌≡◌ {A = Verdict} (Ok tt) (Err (refusal Oversize 0)) = e ∙ roomy n room i i' a a' w w' h l in let z : ◌≡◌ {A = ℕ} 0 1 = cc in absurd (omega arith)
        | inr k ↦ (h, k)
      ]
    ]

-- the gate with the numbers as answered is the gate
pub gate_general : (s : Codebook) (n w i i' j' a a' b' k k' l' : ℕ) → n ≡ answered s.n → w ≡ answered_working s
    → (s.n ≤ 4096 → i' ≡ j') → (s.n ≤ 4096 → a' ≡ b') → (s.n ≤ 4096 → s.working ≤ 16384 → k' ≡ l')
    → gauge n w i i' a a' k k' ≡ gauge s.n s.working i j' a b' k l'
gate_general s n w i i' j' a a' b' k k' l' p q x y z =
    elim (cases_lt 4096 s.n) [
      | inl l ↦ over n w i i' a a' k k' (omega arith) ∙ sym (over s.n s.working i j' a b' k l' l)
      | inr h ↦
          let e : n ≡ s.n = omega arith in
          let f : w ≡ min s.working 16385 = room_of s w q h in
          elim (cases_lt 16384 s.working) [
            | inl l ↦ roomy n w i i' a a' k k' (omega arith) (omega (arith, f)) ∙ sym (roomy s.n s.working i j' a b' k l' h l)
            | inr t ↦
                let v : w ≡ s.working = omega (arith, f) in
                ap (λ (o : ℕ). gauge o w i i' a a' k k') e ∙ ap (λ (o : ℕ). gauge s.n o i i' a a' k k') v
                ∙ ap (λ (o : ℕ). gauge s.n s.working i o a a' k k') (x h)
                ∙ ap (λ (o : ℕ). gauge s.n s.working i j' a o k k') (y h)
                ∙ ap (λ (o : ℕ). gauge s.n s.working i j' a b' k o) (z h t)
          ]
    ]

-- a number up to the length is answered as it is
pub answered_low : (k n x : ℕ) → x ≡ answered k → k ≤ n → n ≤ 4096 → x ≡ k
answered_low k n x e h l = omega arith

pub answered_wide : (s : Codebook) (w : ℕ) → w ≡ answered_working s → s.n ≤ 4096 → s.working ≤ 16384 → w ≡ s.working
answered_wide s w e h l = omega (arith, room_of s w e h)

pub gate_answered : (s : Codebook) (n w i a k : ℕ) → n ≡ answered s.n → w ≡ answered_working s → gauge n w i n a n k w ≡ gauge s.n s.working i s.n a s.n k s.working
gate_answered s n w i a k p q =
    gate_general s n w i n s.n a n s.n k w s.working p q (λ h. answered_low s.n s.n n p (omega arith) h) (λ h. answered_low s.n s.n n p (omega arith) h) (answered_wide s w q)

pub gate_judge : (s : Codebook) (n w i k : ℕ) → n ≡ answered s.n → w ≡ answered_working s → gauge n w i n 0 0 k w ≡ gauge s.n s.working i s.n 0 0 k s.working
gate_judge s n w i k p q =
    gate_general s n w i n s.n 0 0 0 k w s.working p q (λ h. answered_low s.n s.n n p (omega arith) h) (λ h. refl) (answered_wide s w q)

pub gate_take : (s : Codebook) (n w i a x m : ℕ) → n ≡ answered s.n → w ≡ answered_working s → x ≡ answered m → m ≤ s.n
    → gauge n w i n a x 0 0 ≡ gauge s.n s.working i s.n a m 0 0
gate_take s n w i a x m p q r few =
    gate_general s n w i n s.n a x m 0 0 0 p q (λ h. answered_low s.n s.n n p (omega arith) h) (λ h. answered_low m s.n x r few h) (λ h t. refl)

pub gate_encode : (s : Codebook) (n w i x m a k : ℕ) → n ≡ answered s.n → w ≡ answered_working s → x ≡ answered m → m ≤ s.n
    → gauge n w i x a n k w ≡ gauge s.n s.working i m a s.n k s.working
gate_encode s n w i x m a k p q r few =
    gate_general s n w i x m a n s.n k w s.working p q (λ h. answered_low m s.n x r few h) (λ h. answered_low s.n s.n n p (omega arith) h) (answered_wide s w q)

-- an open gate tells the numbers
pub sized_tells : (n room i i' a a' w w' : ℕ) (r : Verdict) → r ≡ gauge n room i i' a a' w w' → IfOk r (λ _. (i ≡ i') × (a ≡ a') × (w' ≤ w))
sized_tells n room i i' a a' w w' (Err e) h = tt
sized_tells n room i i' a a' w w' (Ok u) h =
    let limits = within_limits n room i i' a a' w w' h in
    let s1 : gauge n room i i' a a' w w' ≡ cond (eqb i i') (cond (eqb a a') (cond (ltb w w') (Err (refusal Cramped 0)) (Ok tt)) (Err (refusal WrongTray 0))) (Err (refusal Misfit 0)) = rw (le-ltb 4096 n limits.0, le-ltb 16384 room limits.1) refl in
    elim (cases_eq i i') [
      | inl e ↦
          let s2 : gauge n room i i' a a' w w' ≡ cond (eqb a a') (cond (ltb w w') (Err (refusal Cramped 0)) (Ok tt)) (Err (refusal WrongTray 0)) = s1 ∙ cond-true (eqb i i') _ _ (eq-eqb i i' e) in
          elim (cases_eq a a') [
            | inl f ↦
                let s3 : gauge n room i i' a a' w w' ≡ cond (ltb w w') (Err (refusal Cramped 0)) (Ok tt) = s2 ∙ cond-true (eqb a a') _ _ (eq-eqb a a' f) in
                elim (cases_lt w w') [
                  | inl l ↦ let x : ◌≡◌ {A = Verdict} (Ok tt) (Err (refusal Cramped 0)) = h ∙ s3 ∙ cond-true (ltb w w') _ _ (lt-ltb w w' l) in let z : ◌≡◌ {A = ℕ} 0 1 = cc in absurd (omega arith)
                  | inr l ↦ (e, f, l)
                ]
            | inr f ↦ let x : ◌≡◌ {A = Verdict} (Ok tt) (Err (refusal WrongTray 0)) = h ∙ s2 ∙ cond-false (eqb a a') _ _ (ne_eqb a a' f) in let z : ◌≡◌ {A = ℕ} 0 1 = cc in absurd (omega arith)
          ]
      | inr e ↦ let x : ◌≡◌ {A = Verdict} (Ok tt) (Err (refusal Misfit 0)) = h ∙ s1 ∙ cond-false (eqb i i') _ _ (ne_eqb i i' e) in let z : ◌≡◌ {A = ℕ} 0 1 = cc in absurd (omega arith)
    ]

pub limits_told : (n room i i' a a' w w' : ℕ) (r : Verdict) → r ≡ gauge n room i i' a a' w w' → IfOk r (λ _. (n ≤ 4096) × (room ≤ 16384))
limits_told n room i i' a a' w w' (Err e) h = tt
limits_told n room i i' a a' w w' (Ok u) h = within_limits n room i i' a a' w w' h

pub both_made : (P Q R : Type 0) (r : Verdict) → (P → Q → R) → IfOk r (λ _. P) → IfOk r (λ _. Q) → IfOk r (λ _. R)
both_made P Q R (Ok u) f p q = f p q
both_made P Q R (Err e) f p q = tt

-- past the gate the working cells are as answered
pub worked : (s : Codebook) (n w i i' a a' k k' : ℕ) → n ≡ answered s.n → w ≡ answered_working s → ◌≡◌ {A = Verdict} (Ok tt) (gauge n w i i' a a' k k') → w ≡ s.working
worked s n w i i' a a' k k' p q e =
    let limits = within_limits n w i i' a a' k k' e in
    omega (arith, limits.1, room_of s w q (omega (arith, limits.0, p)))
