-- Remainders on division by q are a ring, for every q from 2 to 256. Assumes nothing.
use Rattle.std.specs.Prelude.{◌≡◌, ℕ, zero, ◌+◌, ◌-◌, ◌*◌, ◌/◌, ◌%◌, ◌<◌, ◌≤◌}
use Rattle.std.proofs.Common.{sym, ap, ◌∙◌, add_assoc, add_comm, add-zero, mul_assoc, mul_comm, mul-one, mul-add, add-mul, mod-lt, mod-eq_of_lt, arith}
use Rattle.std.proofs.Math.Nat.{mod_self, mod-add-mod, add-mod-mod, mod-add-div, add-mul-mod_self_left}
use Rattle.alphabet.specs.Rings.{Ring}
use Rattle.alphabet.specs.Remainders.{plus_mod, minus_mod, times_mod}

mod_mul_mod : (a b q : ℕ) → (a % q * b) % q ≡ (a * b) % q
mod_mul_mod a b q =
    sym (add-mul-mod_self_left (a % q * b) q (a / q * b))
    ∙ ap (λ x. (a % q * b + x) % q) (sym (mul_assoc q (a / q) b))
    ∙ ap (λ x. x % q) (sym (add-mul (a % q) (q * (a / q)) b))
    ∙ ap (λ x. (x * b) % q) (mod-add-div a q)

mul_mod_mod : (a b q : ℕ) → (a * (b % q)) % q ≡ (a * b) % q
mul_mod_mod a b q =
    ap (λ x. x % q) (mul_comm a (b % q)) ∙ mod_mul_mod b a q ∙ ap (λ x. x % q) (mul_comm b a)

pub remainders : (q : ℕ) → 2 ≤ q → q ≤ 256 → Ring q (plus_mod q) (minus_mod q) (times_mod q)
remainders q low high =
    let some : zero < q = omega arith in
    record {
      low = low;
      high = high;
      add_closed = λ a b ha hb. mod-lt (a + b) some;
      neg_closed = λ a ha. mod-lt (q - a) some;
      mul_closed = λ a b ha hb. mod-lt (a * b) some;
      add_assoc = λ a b c ha hb hc. mod-add-mod (a + b) q c ∙ ap (λ x. x % q) (add_assoc a b c) ∙ sym (add-mod-mod a (b + c) q);
      add_comm = λ a b ha hb. ap (λ x. x % q) (add_comm a b);
      add-zero = λ a ha. ap (λ x. x % q) (add-zero a) ∙ mod-eq_of_lt ha;
      add-neg = λ a ha. add-mod-mod a (q - a) q ∙ ap (λ x. x % q) (omega arith) ∙ mod_self q;
      mul_assoc = λ a b c ha hb hc. mod_mul_mod (a * b) c q ∙ ap (λ x. x % q) (mul_assoc a b c) ∙ sym (mul_mod_mod a (b * c) q);
      mul_comm = λ a b ha hb. ap (λ x. x % q) (mul_comm a b);
      mul-one = λ a ha. ap (λ x. x % q) (mul-one a) ∙ mod-eq_of_lt ha;
      mul-add = λ a b c ha hb hc. mul_mod_mod a (b + c) q ∙ ap (λ x. x % q) (mul-add a b c) ∙ sym (add-mod-mod (a * b) (a * c) q) ∙ sym (mod-add-mod (a * b) q ((a * c) % q));
    }
