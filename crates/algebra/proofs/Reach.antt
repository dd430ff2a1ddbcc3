-- Of a grid whose columns were read, some cut of each row is within reach of the row of any word that the whole grid is within reach of. Assumes nothing.
use Rattle.std.proofs.Common.{◌≡◌, ℕ, ◌-◌, ◌*◌, ◌<◌, ◌≤◌, ◌≢◌, List, length, get_or, sym, ap, ◌∙◌, inl, inr, arith}
use Rattle.std.proofs.lemmas.Bool.{cases_lt}
use Rattle.std.proofs.lemmas.Bool.Decides.{nat_tests}
use Rattle.code.specs.Cells.{blank, cost}
use Rattle.code.specs.Codes.{Codebook, Apart}
use Rattle.algebra.specs.Grids.{row, column, Grid}
use Rattle.alphabet.proofs.Sums.{sum-le}
use Rattle.code.proofs.Rows.{length-listed}
use Rattle.code.proofs.Costs.{far}
use Rattle.algebra.proofs.Grids.{row_at, column_at, cost_columns}
use Rattle.algebra.specs.Weights.{heavy, heft, cut, Found}
use Rattle.algebra.proofs.Averages.{some_cut}

pub heavy_below : (d w x b m : ℕ) → w ≤ m → (x ≢ b → 2 * d - w ≤ m) → heavy d w x b ≤ m
heavy_below d w x b m h k = grind (arith, nat_tests)

-- each cell of a word weighs at most what the word costs
pub cell_weighs : (s : Codebook) → Apart s → (r x : List ℕ) (w : ℕ) → length r ≡ s.n → Found s r x w
    → (v : List ℕ) → s.Word v → (i : ℕ) → heavy s.d w (get_or x i 0) (get_or v i 0) ≤ cost r v
cell_weighs s a r x w e f v q i =
    elim (cases_lt w s.d) [
      | inl l ↦
          let c : cost r x ≡ w = f.weight l in
          heavy_below s.d w (get_or x i 0) (get_or v i 0) (cost r v)
          (elim (cases_lt (cost r v) w) [
            | inl less ↦ absurd (let ne : x ≢ v = λ z. omega (arith, ap (cost r) z) in omega (arith, far s a r e x v (f.word l) q ne))
            | inr g ↦ g
          ])
          (λ ne. omega (arith, far s a r e x v (f.word l) q (λ z. ne (ap (λ y. get_or y i 0) z))))
      | inr g ↦
          let z : w ≡ s.d = omega (arith, f.low) in
          let h = f.lost z v q in
          heavy_below s.d w (get_or x i 0) (get_or v i 0) (cost r v) (omega (arith, h)) (λ ne. omega (arith, h))
    ]

-- the grid x has under each column what was found of it, and w says at which cost: then some cut of each row is within reach of the word's row
module _ (a b : Codebook) (p : Apart a) (small : a.q ≤ blank) (r x : List ℕ) (w : ℕ → ℕ) (e : length r ≡ a.n * b.n)
    (found : (j : ℕ) → j < b.n → Found a (column a.n b.n r j) (column a.n b.n x j) (w j)) where
  pub row_weighs : (v : List ℕ) → Grid a b v → (i : ℕ) → i < a.n → heft b.n a.d w (row b.n x i) (row b.n v i) ≤ cost r v
  row_weighs v g i l =
      let m = a.n in
      let n = b.n in
      let each : (j : ℕ) → j < n → heavy a.d (w j) (get_or (row n x i) j 0) (get_or (row n v i) j 0) ≤ cost (column m n r j) (column m n v j) =
      λ j q.
      let at : (y : List ℕ) → get_or (row n y i) j 0 ≡ get_or (column m n y j) i 0 =
      λ y. row_at n y i j q ∙ sym (column_at m n y i j l) in
      rw (at x, at v) (cell_weighs a p (column m n r j) (column m n x j) (w j) (length-listed m _) (found j q) (column m n v j) (g.columns j q) i) in
      omega (arith, sum-le n _ _ each, cost_columns m n r v e)

  pub row_reached : (v : List ℕ) → Grid a b v → cost r v < a.d * b.d → (i : ℕ) → i < a.n
      → (t : ℕ) × (1 ≤ t) × (t ≤ a.d) × (cost (cut b.n w (row b.n x i) t) (row b.n v i) < b.d)
  row_reached v g h i l =
      some_cut b.n a.d w (row b.n x i)
      (λ j q. (found j q).low)
      (λ j q less z.
      let in_row = row_at b.n x i j q in
      let in-column = column_at a.n b.n x i j l in
      omega (arith, p.symbols _ ((found j q).word less) i l, in_row, in-column, z))
      (row b.n v i) b.d (omega (arith, row_weighs v g i l))
