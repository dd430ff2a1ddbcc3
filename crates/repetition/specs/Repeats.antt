-- The repetition code: the words of n equal symbols. Assumes nothing.
use Rattle.std.specs.Prelude.{◌≡◌, ℕ, ◌<◌, Bool, ◌&&◌, List, replicate, nat_le}
use Rattle.code.specs.Codes.{Codebook, Layout}

pub record Repeated (q n : ℕ) (w : List ℕ) : Type 0 where
  pub symbol : ℕ
  pub below : symbol < q
  pub same : w ≡ replicate n symbol

abbrev pub repeats : ℕ → ℕ → Codebook
repeats q n = record { q = q; n = n; d = n; working = 0; Word = Repeated q n }

-- one message symbol, at place 0
abbrev pub first : Layout
first = record { k = 1; place = λ i. i }

-- the limits of the maker
abbrev pub repeatable : ℕ → Bool
repeatable n = nat_le 1 n && nat_le n 64
