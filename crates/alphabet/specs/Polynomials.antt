-- Polynomials over two elements. A polynomial is written as the number whose bits are its coefficients, the lowest bit the constant; x^4 + x + 1 is 19. Assumes nothing.
use Rattle.std.specs.Prelude.{◌≡◌, ℕ, suc, ◌+◌, ◌-◌, ◌*◌, ◌/◌, ◌%◌, ◌^◌, ◌<◌, cond, ◌==◌, bit_xor}
use Rattle.alphabet.specs.Sums.{sum}

-- the coefficient of x^i
abbrev pub coefficient : ℕ → ℕ → ℕ
coefficient p i = p / 2 ^ i % 2

-- the coefficient of x^k in a product: a_0 b_k + a_1 b_(k - 1) + .. + a_k b_0, over two elements
unfoldable pub product_coefficient : ℕ → ℕ → ℕ → ℕ
product_coefficient a b k = sum (suc k) (λ i. coefficient a i * coefficient b (k - i)) % 2

-- the product of two polynomials whose degrees together are at most 6
unfoldable pub product : ℕ → ℕ → ℕ
product a b = sum 7 (λ k. product_coefficient a b k * 2 ^ k)

-- r is the remainder of p on division by x^4 + x + 1: its degree is below 4, and p is a multiple of x^4 + x + 1 plus r
pub record Remainder (p r : ℕ) : Type 0 where
  pub quotient : ℕ
  pub small : quotient < 8
  pub low : r < 16
  pub whole : p ≡ bit_xor (product quotient 19) r

-- x^j (x^4 + x + 1) taken off where x^(4 + j) is there
abbrev pub taken_off : ℕ → ℕ → ℕ
taken_off j p = cond (coefficient p (4 + j) == 1) (bit_xor p (19 * 2 ^ j)) p

-- the same remainder by long division, from the highest degree down
unfoldable pub reduced : ℕ → ℕ
reduced p = taken_off 0 (taken_off 1 (taken_off 2 p))

-- the product of two symbols of the alphabet of sixteen
unfoldable pub field_product : ℕ → ℕ → ℕ
field_product a b = reduced (product a b)
