-- The sum code: the words of n symbols that add up to 0. Assumes nothing.
use Rattle.std.specs.Prelude.{◌≡◌, ℕ, ◌-◌, ◌<◌, Bool, ◌&&◌, List, length, nat_le, slice_index}
use Rattle.alphabet.specs.Sums.{added}
use Rattle.code.specs.Codes.{Codebook, Layout}

pub record Balanced (add : ℕ → ℕ → ℕ) (q n : ℕ) (w : List ℕ) : Type 0 where
  pub sized : length w ≡ n
  pub symbols : (i : ℕ) → i < n → slice_index w i < q
  pub balance : added add n (λ i. slice_index w i) ≡ 0

abbrev pub balances : (ℕ → ℕ → ℕ) → (q n : ℕ) → Codebook
balances add q n = record { q = q; n = n; d = 2; working = 0; Word = Balanced add q n }

-- the message stands in front of a last symbol that balances it
abbrev pub but_last : ℕ → Layout
but_last n = record { k = n - 1; place = λ i. i }

-- the limits of the maker
abbrev pub summable : ℕ → Bool
summable n = nat_le 2 n && nat_le n 64
