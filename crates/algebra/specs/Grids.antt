-- The product of two codes: grids whose columns are words of the first and whose rows are words of the second. Assumes nothing.
use Rattle.std.specs.Prelude.{◌≡◌, ℕ, ◌+◌, ◌*◌, ◌/◌, ◌%◌, ◌<◌, max, List, length, slice_index}
use Rattle.code.specs.Cells.{listed}
use Rattle.code.specs.Codes.{Codebook, Layout}

-- row i and column j of a grid of n2 columns, laid row after row
abbrev pub row : ℕ → List ℕ → ℕ → List ℕ
row n2 w i = listed n2 (λ j. slice_index w (i * n2 + j))

abbrev pub column : ℕ → ℕ → List ℕ → ℕ → List ℕ
column n1 n2 w j = listed n1 (λ i. slice_index w (i * n2 + j))

pub record Grid (a b : Codebook) (w : List ℕ) : Type 0 where
  pub sized : length w ≡ a.n * b.n
  pub columns : (j : ℕ) → j < b.n → a.Word (column a.n b.n w j)
  pub rows : (i : ℕ) → i < a.n → b.Word (row b.n w i)

abbrev pub grids : Codebook → Codebook → Codebook
grids a b = record {
  q = a.q;
  n = a.n * b.n;
  d = a.d * b.d;
  working = a.n * b.n + b.n + 2 * max a.n b.n + max a.working b.working;
  Word = Grid a b;
}

-- message symbol i lies in the row of symbol i / k2 of the first code and the column of symbol i % k2 of the second
abbrev pub laid : Codebook → Layout → Layout → Layout
laid b l1 l2 = record { k = l1.k * l2.k; place = λ i. l1.place (i / l2.k) * b.n + l2.place (i % l2.k) }
