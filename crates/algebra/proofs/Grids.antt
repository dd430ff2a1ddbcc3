-- Grids by their rows, columns and places. Assumes nothing.
use Rattle.std.proofs.Common.{◌≡◌, ℕ, ◌+◌, ◌*◌, ◌/◌, ◌%◌, ◌<◌, ◌≤◌, List, length, get_or, take, drop, sym, ap, ◌∙◌, subst, inl, inr, mul_assoc, arith, length-drop, length-take, get_or-drop, get_or-take, ext_get_or}
use lib.Arith.{digits_lt}
use Rattle.std.proofs.lemmas.Nat.{div-add-mod', div_below, mod_below}
use Rattle.std.proofs.lemmas.Bool.{cases_lt}
use Rattle.alphabet.specs.Sums.{sum}
use Rattle.code.specs.Cells.{listed, cost}
use Rattle.code.specs.Codes.{Codebook}
use Rattle.algebra.specs.Grids.{row, column, Grid}
use Rattle.alphabet.proofs.Sums.{sum_same, sum_columns}
use Rattle.code.proofs.Rows.{length-listed, get_or-listed, is_listed, listed_same}
use Rattle.code.specs.Cells.{price}
use Rattle.code.proofs.Costs.{cost_is, cost-listed}

-- the row and the column of a place
pub parts_in : (m n k : ℕ) → k < m * n → (k / n < m) × (k % n < n)
parts_in m n k h =
    let pos : 0 < n = elim (cases_lt 0 n) [ inl l ↦ l | inr g ↦ absurd (let z : n ≡ 0 = omega arith in omega (arith, ap (λ x. m * x) z)) ] in
    (div_below k n m pos h, mod_below k n pos)

-- a place of a grid is that of a row and a column
pub record Place (m n k : ℕ) : Type 0 where
  pub i : ℕ
  pub j : ℕ
  pub row_in : i < m
  pub column_in : j < n
  pub is : i * n + j ≡ k

pub place : (m n k : ℕ) → k < m * n → Place m n k
place m n k h =
    let at = parts_in m n k h in record { i = k / n; j = k % n; row_in = at.0; column_in = at.1; is = div-add-mod' k n }

pub row_at : (n : ℕ) (w : List ℕ) (i j : ℕ) → j < n → get_or (row n w i) j 0 ≡ get_or w (i * n + j) 0
row_at n w i j h = get_or-listed n (λ j. get_or w (i * n + j) 0) j h

pub column_at : (m n : ℕ) (w : List ℕ) (i j : ℕ) → i < m → get_or (column m n w j) i 0 ≡ get_or w (i * n + j) 0
column_at m n w i j h = get_or-listed m (λ i. get_or w (i * n + j) 0) i h

-- the cells f 0 .. as a grid
pub grid_listed : (a b : Codebook) (f : ℕ → ℕ) → ((j : ℕ) → j < b.n → a.Word (listed a.n (λ i. f (i * b.n + j))))
    → ((i : ℕ) → i < a.n → b.Word (listed b.n (λ j. f (i * b.n + j)))) → Grid a b (listed (a.n * b.n) f)
grid_listed a b f columns rows = record {
  sized = length-listed (a.n * b.n) f;
  columns = λ j h. subst a.Word (sym (listed_same a.n _ _ (λ i l. get_or-listed (a.n * b.n) f (i * b.n + j) (digits_lt l h)))) (columns j h);
  rows = λ i h. subst b.Word (sym (listed_same b.n _ _ (λ j l. get_or-listed (a.n * b.n) f (i * b.n + j) (digits_lt h l)))) (rows i h);
}

-- two grids agree that agree column by column
pub same_columns : (m n : ℕ) (u v : List ℕ) → length u ≡ m * n → length v ≡ m * n → ((j : ℕ) → j < n → column m n u j ≡ column m n v j) → u ≡ v
same_columns m n u v p q same =
    ext_get_or 0 u v (p ∙ sym q) (λ k h.
    let at = place m n k (omega arith) in
    let here : get_or u (at.i * n + at.j) 0 ≡ get_or v (at.i * n + at.j) 0 =
    sym (column_at m n u at.i at.j at.row_in) ∙ ap (λ w. get_or w at.i 0) (same at.j at.column_in) ∙ column_at m n v at.i at.j at.row_in in
    rw at.is at here)

-- a row is the slice that a program takes
pub row_is_slice : (n i : ℕ) (w : List ℕ) → i * n + n ≤ length w → take n (drop (i * n) w) ≡ row n w i
row_is_slice n i w h =
    is_listed n (λ j. get_or w (i * n + j) 0) (take n (drop (i * n) w))
    (simp (length-take, length-drop) (omega arith))
    (λ j l. get_or-take n (drop (i * n) w) j 0 l ∙ get_or-drop (i * n) w j 0)

-- a grid costs what its columns cost
pub cost_columns : (m n : ℕ) (r w : List ℕ) → length r ≡ m * n → cost r w ≡ sum n (λ j. cost (column m n r j) (column m n w j))
cost_columns m n r w e =
    let P : ℕ → ℕ = λ k. price (get_or r k 0) (get_or w k 0) in
    cost_is r w ∙ ap (λ k. sum k P) e ∙ sum_columns m n P
    ∙ sum_same n _ _ (λ j l. sym (
    cost-listed m (λ i. get_or r (i * n + j) 0) (column m n w j)
    ∙ sum_same m _ _ (λ i q. ap (price (get_or r (i * n + j) 0)) (column_at m n w i j q))))

-- ---- three codes: one grid, cut in either way
module _ (n1 n2 n3 : ℕ) (w : List ℕ) where
  -- the place of row i, row k and column j
  pub place_of_three : (i k j : ℕ) → (i * n2 + k) * n3 + j ≡ i * (n2 * n3) + (k * n3 + j)
  place_of_three i k j = omega (arith, mul_assoc i n2 n3)

  pub column-column : (k j : ℕ) → k < n2 → j < n3 → column n1 n2 (column (n1 * n2) n3 w j) k ≡ column n1 (n2 * n3) w (k * n3 + j)
  column-column k j p q = listed_same n1 _ _ (λ i l. column_at (n1 * n2) n3 w (i * n2 + k) j (digits_lt l p) ∙ ap (λ x. get_or w x 0) (place_of_three i k j))

  pub row-column : (i j : ℕ) → i < n1 → j < n3 → row n2 (column (n1 * n2) n3 w j) i ≡ column n2 n3 (row (n2 * n3) w i) j
  row-column i j p q =
      listed_same n2 _ _ (λ k l.
      column_at (n1 * n2) n3 w (i * n2 + k) j (digits_lt p l)
      ∙ ap (λ x. get_or w x 0) (place_of_three i k j)
      ∙ sym (row_at (n2 * n3) w i (k * n3 + j) (digits_lt l q)))

  pub row-row : (i k : ℕ) → k < n2 → row n3 w (i * n2 + k) ≡ row n3 (row (n2 * n3) w i) k
  row-row i k p =
      listed_same n3 _ _ (λ j l.
      ap (λ x. get_or w x 0) (place_of_three i k j)
      ∙ sym (row_at (n2 * n3) w i (k * n3 + j) (digits_lt p l)))
