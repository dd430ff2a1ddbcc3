-- Of a grid whose columns were read and whose rows were decoded, only the decoded grid can be within reach. Assumes nothing.
use Rattle.std.proofs.Common.{◌≡◌, ℕ, ◌+◌, ◌*◌, ◌<◌, ◌≤◌, Bool, true, false, List, length, get_or, sym, refl, subst, inl, inr, arith, ap}
use Rattle.algebra.proofs.Products.{product_apart}
use Rattle.std.proofs.lemmas.Bool.{cases_lt}
use Rattle.code.specs.declared.cells.Counts.{Counts}
use Rattle.code.specs.Cells.{blank, cost, wrongs, blanks}
use Rattle.code.specs.Codes.{Codebook, Apart}
use Rattle.algebra.specs.Grids.{row, column, Grid, grids}
use Rattle.code.specs.Calls.{Within, Beyond}
use Rattle.code.proofs.Costs.{within}
use Rattle.code.proofs.Rows.{equal_or_not}
use Rattle.algebra.specs.Weights.{heft}
use Rattle.algebra.proofs.Averages.{one_passes}
use Rattle.algebra.proofs.Grids.{place, row_at, column_at}
use Rattle.algebra.proofs.Reach.{row_weighs}
use Rattle.algebra.specs.Parts.{Symbols, Weighed, RowsDecoded, Says}
use Rattle.algebra.specs.Readings.{ColumnsFound, Candidate}
use Rattle.algebra.proofs.Places.{same_rows}

-- numbers as the code has them
pub moved : (P : ℕ → ℕ → ℕ → Type 0) {x y z u v w : ℕ} → x ≡ u → y ≡ v → z ≡ w → P x y z → P u v w
moved P {x} {y} {z} {u} {v} {w} p q r h =
    subst (λ (k : ℕ). P u v k) r (subst (λ (k : ℕ). P u k z) q (subst (λ (k : ℕ). P k y z) p h))

module _ (a b : Codebook) (p : Apart a) (small : a.q ≤ blank) (r x ws : List ℕ) (e : length r ≡ a.n * b.n)
    (found : ColumnsFound a b.n r x ws) where
  pub rows_weighed : a.q ≡ b.q → (i : ℕ) → i < a.n → Weighed b a.d ws (row b.n x i)
  rows_weighed same i l = record {
    low = λ j h. (found j h).low;
    symbols = λ j h less.
        omega (arith, p.symbols _ ((found j h).word less) i l, row_at b.n x i j h, column_at a.n b.n x i j l, same);
  }

  weighs : (v : List ℕ) → Grid a b v → (i : ℕ) → i < a.n → heft b.n a.d (λ j. get_or ws j 0) (row b.n x i) (row b.n v i) ≤ cost r v
  weighs v g i l = row_weighs a b p small r x (λ j. get_or ws j 0) e found v g i l

  pub beyond_row : (y : List ℕ) → RowsDecoded b a.d ws a.n b.n x y false → Beyond (grids a b) r
  beyond_row y h v g =
      elim (cases_lt (cost r v) (a.d * b.d)) [
        | inl l ↦ absurd (omega (arith, l, h.2 (row b.n v h.0) (g.rows h.0 h.1), weighs v g h.0 h.1))
        | inr k ↦ k
      ]

  module _ (q : Apart b) (y : List ℕ) (long : length y ≡ a.n * b.n) (rows : RowsDecoded b a.d ws a.n b.n x y true) where
    pub only : (v : List ℕ) → Grid a b v → cost r v < a.d * b.d → v ≡ y
    only v g l =
        same_rows a.n b.n v y g.sized long (λ i h.
        elim (equal_or_not (row b.n y i) (row b.n v i)) [
          | inl eq ↦ sym eq
          | inr ne ↦ absurd (omega (
            arith,
            l,
            weighs v g i h,
            one_passes b q a.d (λ j. get_or ws j 0) (row b.n x i) (row b.n y i) (row b.n v i) (λ j k. (found j k).low) (rows i h).word (g.rows i h) ne (rows i h).light,
          ))
        ])

    pub beyond_column : (((j : ℕ) → j < b.n → a.Word (column a.n b.n y j)) → ⊥) → Beyond (grids a b) r
    beyond_column h v g =
        elim (cases_lt (cost r v) (a.d * b.d)) [
          | inl l ↦ absurd (h (λ j k. subst (λ (w : List ℕ). a.Word (column a.n b.n w j)) (only v g l) (g.columns j k)))
          | inr k ↦ k
        ]

    pub beyond_cost : a.d * b.d ≤ cost r y → Beyond (grids a b) r
    beyond_cost h v g =
        elim (cases_lt (cost r v) (a.d * b.d)) [
          | inl l ↦ absurd (omega (arith, h, l, ap (cost r) (only v g l)))
          | inr k ↦ k
        ]

    pub rows_symbols : a.q ≡ b.q → Symbols a.q y
    rows_symbols same k h =
        let at = place a.n b.n k (omega arith) in
        let here : get_or y (at.i * b.n + at.j) 0 < a.q = omega (arith, row_at b.n y at.i at.j at.column_in, q.symbols _ (rows at.i at.row_in).word at.j at.column_in, same) in
        rw at.is at here

    pub whole : (c : Counts) → ((j : ℕ) → j < b.n → a.Word (column a.n b.n y j)) → c.wrong ≡ wrongs r y → c.blank ≡ blanks r
        → 2 * c.wrong + c.blank < a.d * b.d → Within (grids a b) r y c
    whole c columns wrong-is blank-is cheap =
        within (grids a b) (product_apart a b p q) r e y c (record { sized = long; columns = columns; rows = λ i h. (rows i h).word }) wrong-is blank-is cheap

-- the numbers as the code has them: m columns were found, and the n1 rows decoded at d
module _ (a b : Codebook) (p : Apart a) (small : a.q ≤ blank) (same : a.q ≡ b.q) (r x ws : List ℕ) (e : length r ≡ a.n * b.n)
    {m n1 d : ℕ} (em : m ≡ b.n) (e1 : n1 ≡ a.n) (ed : d ≡ a.d) (columns : ColumnsFound a m r x ws) where
  found : ColumnsFound a b.n r x ws
  found = subst (λ (k : ℕ). ColumnsFound a k r x ws) em columns

  pub weighed : (i : ℕ) → i < n1 → Weighed b d ws (row b.n x i)
  weighed i h = subst (λ (k : ℕ). Weighed b k ws (row b.n x i)) (sym ed) (rows_weighed a b p small r x ws e found same i (omega (arith, e1, h)))

  pub row_lost : (y : List ℕ) → RowsDecoded b d ws n1 b.n x y false → Candidate (grids a b) r y false
  row_lost y h = beyond_row a b p small r x ws e found y (moved (λ n k l. RowsDecoded b l ws n k x y false) e1 refl ed h)

  module _ (q : Apart b) (y : List ℕ) (long : length y ≡ a.n * b.n) (decoded : RowsDecoded b d ws n1 b.n x y true) where
    rows : RowsDecoded b a.d ws a.n b.n x y true
    rows = moved (λ n k l. RowsDecoded b l ws n k x y true) e1 refl ed decoded

    pub symbols : Symbols a.q y
    symbols = rows_symbols a b p small r x ws e found q y long rows same

    pub candidate : (n2 : ℕ) (t : Bool) → n2 ≡ b.n → Says t ((j : ℕ) → j < n2 → a.Word (column a.n n2 y j)) → Candidate (grids a b) r y t
    candidate n2 true e2 h = (
      record {
        sized = long;
        columns = subst (λ (k : ℕ). (j : ℕ) → j < k → a.Word (column a.n k y j)) e2 (h.0 tt);
        rows = λ i l. (rows i l).word;
      },
      only a b p small r x ws e found q y long rows,
    )
    candidate n2 false e2 h =
        beyond_column a b p small r x ws e found q y long rows
        (λ f. h.1 (subst (λ (k : ℕ). (j : ℕ) → j < k → a.Word (column a.n k y j)) (sym e2) f))

-- ---- the one word that can be within reach
pub near : (s : Codebook) (p : Apart s) (r y : List ℕ) (c : Counts) → length r ≡ s.n → Candidate s r y true → c.wrong ≡ wrongs r y → c.blank ≡ blanks r
    → 2 * c.wrong + c.blank < s.d → Within s r y c
near s p r y c e h wrong-is blank-is cheap = within s p r e y c h.0 wrong-is blank-is cheap
