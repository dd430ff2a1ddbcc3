-- Rows of a grid that are written one after the other. Assumes nothing.
use Rattle.std.proofs.Common.{◌≡◌, ℕ, ◌+◌, ◌-◌, ◌*◌, ◌<◌, ◌≤◌, List, length, take, drop, ◌∙◌, arith, below_more}
use borrow.Rule.Slice.PartMut.{put_mid}
use Rattle.algebra.specs.Grids.{row}
use Rattle.algebra.proofs.Places.{row_end, row-part, row_before, row-after, row_same}

-- the part that is lent is row i, where the grid has n1 rows
pub row_lent : (n i n1 : ℕ) (w : List ℕ) → length w ≡ n1 * n → i < n1 → take (i * n + n - i * n) (drop (i * n) w) ≡ row n w i
row_lent n i n1 w e h = let end = row_end n i n1 h in row-part n i w (omega (arith, e, end))

pub rows_written : (P : ℕ → List ℕ → Type 0) (n i n1 m : ℕ) (w y : List ℕ) → length w ≡ n1 * n → i < n1 → m ≡ n → length y ≡ m
    → ((k : ℕ) → k < i → P k (row n w k)) → P i y → (k : ℕ) → k < i + 1 → P k (row n (put_mid (i * n) m w y) k)
rows_written P n i n1 m w y e h z f below here =
    let end = row_end n i n1 h in
    let fits : i * n + m ≤ length w = omega (arith, e, end, z) in
    below_more (λ k. P k (row n (put_mid (i * n) m w y) k)) i
    (λ k l. rw (row_before n i k m w y l fits f) (below k l))
    (rw (row_same n i m w y z fits f) here)

pub rows_unwritten : (n i n1 m : ℕ) (w w0 y : List ℕ) → length w ≡ n1 * n → m ≡ n → length y ≡ m
    → ((k : ℕ) → i ≤ k → k < n1 → row n w k ≡ row n w0 k) → (k : ℕ) → i + 1 ≤ k → k < n1 → row n (put_mid (i * n) m w y) k ≡ row n w0 k
rows_unwritten n i n1 m w w0 y e z f same k l h =
    let end = row_end n k n1 h in
    let before = row_end n i k (omega arith) in
    row-after n i k m w y (omega arith) z (omega (arith, e, end, before, z)) (omega (arith, e, end)) f ∙ same k (omega arith) h
