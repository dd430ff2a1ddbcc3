-- Sums of numbers, and of symbols by their alphabet's addition. Assumes nothing.
use Rattle.std.specs.Prelude.{ℕ, zero, suc, ◌+◌}

-- f 0 + .. + f (n - 1)
abbrev pub sum : ℕ → (ℕ → ℕ) → ℕ
sum zero f = 0
sum (suc n) f = sum n f + f n

-- the symbols f 0 .. f (n - 1) added up by add, from the left
abbrev pub added : (ℕ → ℕ → ℕ) → ℕ → (ℕ → ℕ) → ℕ
added add zero f = 0
added add (suc n) f = add (added add n f) (f n)
