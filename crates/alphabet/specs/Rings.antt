-- The laws of an alphabet's arithmetic: a commutative ring on the symbols. Assumes nothing.
use Rattle.std.specs.Prelude.{◌≡◌, ℕ, ◌<◌, ◌≤◌}

-- the symbols 0 .. q - 1 with their arithmetic
pub record Ring (q : ℕ) (add : ℕ → ℕ → ℕ) (neg : ℕ → ℕ) (mul : ℕ → ℕ → ℕ) : Type 0 where
  pub low : 2 ≤ q
  pub high : q ≤ 256
  pub add_closed : (a b : ℕ) → a < q → b < q → add a b < q
  pub neg_closed : (a : ℕ) → a < q → neg a < q
  pub mul_closed : (a b : ℕ) → a < q → b < q → mul a b < q
  pub add_assoc : (a b c : ℕ) → a < q → b < q → c < q → add (add a b) c ≡ add a (add b c)
  pub add_comm : (a b : ℕ) → a < q → b < q → add a b ≡ add b a
  pub add-zero : (a : ℕ) → a < q → add a 0 ≡ a
  pub add-neg : (a : ℕ) → a < q → add a (neg a) ≡ 0
  pub mul_assoc : (a b c : ℕ) → a < q → b < q → c < q → mul (mul a b) c ≡ mul a (mul b c)
  pub mul_comm : (a b : ℕ) → a < q → b < q → mul a b ≡ mul b a
  pub mul-one : (a : ℕ) → a < q → mul a 1 ≡ a
  pub mul-add : (a b c : ℕ) → a < q → b < q → c < q → mul a (add b c) ≡ add (mul a b) (mul a c)
