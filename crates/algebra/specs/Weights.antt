-- What reading the columns of a grid tells of each: a word and its cost, or that there is none; and what the rows weigh by it. Assumes nothing.
use Rattle.std.specs.Prelude.{◌≡◌, ℕ, ◌-◌, ◌*◌, ◌<◌, ◌≤◌, cond, List, ◌==◌, nat_le, slice_index}
use Rattle.alphabet.specs.Sums.{sum}
use Rattle.code.specs.Cells.{listed, blank, cost}
use Rattle.code.specs.Codes.{Codebook}

-- the row x of n cells with a blank where the weight reaches t
abbrev pub cut : ℕ → (ℕ → ℕ) → List ℕ → ℕ → List ℕ
cut n w x t = listed n (λ j. cond (nat_le t (w j)) blank (slice_index x j))

-- the generalized weight of the word b
abbrev pub heavy : ℕ → ℕ → ℕ → ℕ → ℕ
heavy d w x b = cond (x == b) w (2 * d - w)

abbrev pub heft : ℕ → ℕ → (ℕ → ℕ) → List ℕ → List ℕ → ℕ
heft n d w x b = sum n (λ j. heavy d (w j) (slice_index x j) (slice_index b j))

-- what was made of a column: a word within reach, or nothing
pub record Found (s : Codebook) (r x : List ℕ) (w : ℕ) : Type 0 where
  pub low : w ≤ s.d
  pub word : w < s.d → s.Word x
  pub weight : w < s.d → cost r x ≡ w
  pub lost : w ≡ s.d → (v : List ℕ) → s.Word v → s.d ≤ cost r v
