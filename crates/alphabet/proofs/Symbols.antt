-- What follows from an alphabet's laws. Assumes nothing.
use Rattle.std.proofs.Common.{◌≡◌, ℕ, ◌<◌, sym, ap, ◌∙◌, arith}
use Rattle.alphabet.specs.Rings.{Ring}

module _ {q : ℕ} {add : ℕ → ℕ → ℕ} {neg : ℕ → ℕ} {mul : ℕ → ℕ → ℕ} (r : Ring q add neg mul) where
  pub zero_in : 0 < q
  zero_in = omega (arith, r.low)

  pub one_in : 1 < q
  one_in = omega (arith, r.low)

  pub zero-add : (x : ℕ) → x < q → add 0 x ≡ x
  zero-add x h = r.add_comm 0 x zero_in h ∙ r.add-zero x h

  pub neg-add : (x : ℕ) → x < q → add (neg x) x ≡ 0
  neg-add x h = r.add_comm (neg x) x (r.neg_closed x h) h ∙ r.add-neg x h

  unadd : (x y : ℕ) → x < q → y < q → add (neg x) (add x y) ≡ y
  unadd x y h k = sym (r.add_assoc (neg x) x y (r.neg_closed x h) h k) ∙ ap (λ z. add z y) (neg-add x h) ∙ zero-add y k

  pub cancel_left : (x y z : ℕ) → x < q → y < q → z < q → add x y ≡ add x z → y ≡ z
  cancel_left x y z h k l e = sym (unadd x y h k) ∙ ap (add (neg x)) e ∙ unadd x z h l

  pub cancel_right : (x y z : ℕ) → x < q → y < q → z < q → add y x ≡ add z x → y ≡ z
  cancel_right x y z h k l e = cancel_left x y z h k l (r.add_comm x y h k ∙ e ∙ r.add_comm z x l h)

  pub mul-zero : (x : ℕ) → x < q → mul x 0 ≡ 0
  mul-zero x h =
      let m = r.mul_closed x 0 h zero_in in
      cancel_left (mul x 0) (mul x 0) 0 m m zero_in
      (sym (r.mul-add x 0 0 h zero_in zero_in) ∙ ap (mul x) (r.add-zero 0 zero_in) ∙ sym (r.add-zero (mul x 0) m))

  -- two sums of two, added place by place
  pub shuffle : (x y u v : ℕ) → x < q → y < q → u < q → v < q → add (add x y) (add u v) ≡ add (add x u) (add y v)
  shuffle x y u v hx hy hu hv =
      let A = r.add_assoc in
      let C = r.add_closed in
      A x y (add u v) hx hy (C u v hu hv)
      ∙ ap (add x) (sym (A y u v hy hu hv) ∙ ap (λ z. add z v) (r.add_comm y u hy hu) ∙ A u y v hu hy hv)
      ∙ sym (A x u (add y v) hx hu (C y v hy hv))
