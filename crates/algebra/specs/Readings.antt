-- What is read off a line, off the columns of a grid and off a whole grid, and the cells that it takes. Assumes nothing.
use Rattle.std.specs.Prelude.{◌≡◌, ℕ, ◌+◌, ◌*◌, ◌<◌, ◌≤◌, Bool, true, false, List, length, slice_index, Option, Some, None}
use Rattle.code.specs.declared.cells.Counts.{Counts}
use Rattle.code.specs.Cells.{blank, cost}
use Rattle.code.specs.Calls.{Within, Beyond}
use Rattle.code.specs.Codes.{Codebook}
use Rattle.algebra.specs.Grids.{column}
use Rattle.algebra.specs.Parts.{Ready, Weighed}
use Rattle.algebra.specs.Weights.{Found}

-- what the read of the line r gives, with y left: the one word within reach, or that there is none
abbrev pub Reached : Codebook → (r y : List ℕ) → Option Counts → Type 0
Reached s r y (Some c) = Within s r y c
Reached s r y None = Beyond s r

-- a row x whose columns have the weights ws, and cells lent to try it
pub record RowReady (s : Codebook) (d : ℕ) (ws x : List ℕ) (line word rest : ℕ) : Type 0 where
  pub ready : Ready s (length x) rest
  pub weighed : Weighed s d ws x
  pub weights_is : length ws ≡ length x
  pub line_is : line ≡ length x
  pub word_is : word ≡ length x

-- a code that is small enough to be read, and cells lent for a line, its word and the working cells
pub record Roomy (s : Codebook) (lent : ℕ) : Type 0 where
  pub short : s.n ≤ 4096
  pub room : 2 * s.n + s.working ≤ lent
  pub roomy : s.working ≤ 16384
  pub symbols : s.q ≤ blank

-- what was made of each of the n columns of r: x, at the weights ws
abbrev pub ColumnsFound : Codebook → ℕ → (r x ws : List ℕ) → Type 0
ColumnsFound s n r x ws = (j : ℕ) → j < n → Found s (column s.n n r j) (column s.n n x j) (slice_index ws j)

-- y is a word, and no other can be within reach of r; or none is
abbrev pub Candidate : Codebook → (r y : List ℕ) → Bool → Type 0
Candidate s r y true = s.Word y × ((v : List ℕ) → s.Word v → cost r v < s.d → v ≡ y)
Candidate s r y false = Beyond s r
