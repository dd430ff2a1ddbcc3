-- Where message symbol i of a product lies: the place is there exactly where both factors have theirs. Assumes nothing.
use Rattle.std.proofs.Common.{◌≡◌, ℕ, ◌+◌, ◌*◌, ◌/◌, ◌%◌, ◌<◌, ◌≤◌, cond, ltb, ◌≢◌, Some, None, Option, sym, refl, ap, ◌∙◌, inl, inr, mod-lt, arith}
use lib.Arith.{digits_lt}
use Rattle.std.proofs.lemmas.Nat.{div-add-mod'}
use Rattle.std.proofs.lemmas.Bool.{cases_lt, cond_above, cond_below}
use Rattle.code.specs.Codes.{Codebook, Layout}
use Rattle.code.specs.Calls.{answered_place}
use Rattle.algebra.proofs.Grids.{parts_in}

module _ (s : Codebook) (l : Layout) (i : ℕ) (short : s.n ≤ 4096) where
  inner : cond (ltb i l.k) (Some (l.place i)) None ≡ answered_place s l i
  inner = cond_above 4096 s.n None (cond (ltb i l.k) (Some (l.place i)) None) (cond (ltb i l.k) (Some (l.place i)) None) short refl

  pub told_some : (p : ℕ) → Some p ≡ answered_place s l i → (i < l.k) × (p ≡ l.place i)
  told_some p e =
      elim (cases_lt i l.k) [
        | inl h ↦ let x : Some p ≡ Some (l.place i) = e ∙ sym inner ∙ sym (cond_below i l.k (Some (l.place i)) None h) in let same : p ≡ l.place i = cc in (h, same)
        | inr h ↦ let x : Some p ≡ None = e ∙ sym inner ∙ sym (cond_above i l.k (Some (l.place i)) None None h refl) in let z : ◌≡◌ {A = ℕ} 0 1 = cc in absurd (omega arith)
      ]

  pub told_none : ◌≡◌ {A = Option ℕ} None (answered_place s l i) → l.k ≤ i
  told_none e =
      elim (cases_lt i l.k) [
        | inl h ↦ let x : Some (l.place i) ≡ None = cond_below i l.k (Some (l.place i)) None h ∙ inner ∙ sym e in let z : ◌≡◌ {A = ℕ} 0 1 = cc in absurd (omega arith)
        | inr h ↦ h
      ]

-- the numbers as the rows' code answers them: m message symbols and n cells
module _ (a b : Codebook) (la lb : Layout) (i m n : ℕ) (m-is : m ≡ lb.k) (n-is : n ≡ b.n) (some : m ≢ 0) (tall : a.n ≤ 4096) (wide : b.n ≤ 4096) where
  abbrev pub combined : Option ℕ
  combined = cond (ltb i (la.k * lb.k)) (Some (la.place (i / lb.k) * b.n + lb.place (i % lb.k))) None

  pub absent_up : ◌≡◌ {A = Option ℕ} None (answered_place a la (i / m)) → None ≡ combined
  absent_up e =
      let above : la.k ≤ i / m = told_none a la (i / m) tall e in
      let past : la.k * lb.k ≤ i = elim (cases_lt i (la.k * lb.k)) [
        | inl l ↦ absurd (omega (arith, (parts_in la.k lb.k i l).0, above, ap (λ (x : ℕ). i / x) m-is))
        | inr g ↦ g
      ] in
      cond_above i (la.k * lb.k) _ None None past refl

  pub present_along : ◌≡◌ {A = Option ℕ} None (answered_place b lb (i % m)) → ⊥
  present_along e =
      let pos : 0 < m = omega arith in
      omega (arith, told_none b lb (i % m) wide e, mod-lt i pos, m-is)

  module _ (u v : ℕ) (up : Some u ≡ answered_place a la (i / m)) (along : Some v ≡ answered_place b lb (i % m)) where
    place_is : u * n + v ≡ la.place (i / lb.k) * b.n + lb.place (i % lb.k)
    place_is =
        let eu : u ≡ la.place (i / lb.k) = (told_some a la (i / m) tall u up).1 ∙ ap (λ (x : ℕ). la.place (i / x)) m-is in
        let ev : v ≡ lb.place (i % lb.k) = (told_some b lb (i % m) wide v along).1 ∙ ap (λ (x : ℕ). lb.place (i % x)) m-is in
        cc

    pub present : Some (u * n + v) ≡ combined
    present =
        let hu : i / m < la.k = (told_some a la (i / m) tall u up).0 in
        let hv : i % m < m = omega (arith, (told_some b lb (i % m) wide v along).0, m-is) in
        let inside : i < la.k * lb.k = omega (arith, digits_lt hu hv, div-add-mod' i m, ap (λ (x : ℕ). la.k * x) m-is) in
        ap (λ (x : ℕ). Some x) place_is ∙ cond_below i (la.k * lb.k) _ None inside

    pub place_below : ((j : ℕ) → j < la.k → la.place j < a.n) → ((j : ℕ) → j < lb.k → lb.place j < b.n) → u * n + v < a.n * b.n
    place_below inside1 inside2 =
        let tu = told_some a la (i / m) tall u up in
        let tv = told_some b lb (i % m) wide v along in
        let lu : u < a.n = omega (arith, tu.1, inside1 (i / m) tu.0) in
        let lv : v < b.n = omega (arith, tv.1, inside2 (i % m) tv.0) in
        omega (arith, digits_lt lu lv, ap (λ (x : ℕ). u * x) n-is)
