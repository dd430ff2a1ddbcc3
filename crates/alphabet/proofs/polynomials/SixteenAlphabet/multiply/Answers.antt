use Rattle.std.proofs.Common.{◌≡◌, ℕ, ◌%◌, ◌<◌, sym, ◌∙◌, subst, arith}
use lib.Bits.{bit_xor}
use Rattle.alphabet.specs.Polynomials.{product, Remainder, field_product}
use Rattle.alphabet.specs.Shifts.{shifted_product}
use Rattle.alphabet.specs.Field.{shifted, remains}
use Rattle.alphabet.proofs.polynomials.SixteenAlphabet.multiply.Goals as goal

pub returns : goal.returns
returns c =
    let a : ℕ = c.args.a % 16 in
    let b : ℕ = c.args.b % 16 in
    let ha : a < 16 = omega arith in
    let hb : b < 16 = omega arith in
    let r : ℕ = bit_xor (bit_xor c.pick.result c.pick-2.result) (bit_xor c.pick-3.result c.pick-4.result) in
    let steps : r ≡ shifted_product a b = cc in
    let is : r ≡ field_product a b = steps ∙ shifted a b ha hb in
    record { is = is; remainder = subst (λ (x : ℕ). Remainder (product a b) x) (sym is) (remains a b ha hb) }
