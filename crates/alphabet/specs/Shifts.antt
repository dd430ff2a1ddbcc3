-- Multiplication by shifts and exclusive or, as the program goes about it; that it gives the field's product is shown. Assumes nothing.
use Rattle.std.specs.Prelude.{ℕ, ◌*◌, ◌/◌, cond, ◌==◌, bit_and, bit_xor, nat_lt}

-- x times the polynomial, x^4 + x + 1 taken off where the degree is 4
abbrev pub raised : ℕ → ℕ
raised a = cond (nat_lt (a * 2) 16) (a * 2) (bit_xor (a * 2) 19)

-- the polynomial where the lowest bit is set, else nothing
abbrev pub part : ℕ → ℕ → ℕ
part bits a = cond (bit_and bits 1 == 1) a 0

-- b_0 a + b_1 x a + b_2 x^2 a + b_3 x^3 a
abbrev pub shifted_product : ℕ → ℕ → ℕ
shifted_product a b =
    bit_xor (bit_xor (part b a) (part (b / 2) (raised a)))
    (bit_xor (part (b / 4) (raised (raised a))) (part (b / 8) (raised (raised (raised a)))))
