-- The product of two codes keeps their distances, and of three it is the same whichever two are taken first. Assumes nothing.
use Rattle.std.proofs.Common.{◌≡◌, ℕ, ◌+◌, ◌*◌, ◌<◌, ◌≤◌, ◌≢◌, List, get_or, sym, refl, ap, ◌∙◌, subst, mul_assoc, mul-le-mul, mul-le-mul_left, arith}
use lib.Arith.{digits_lt}
use Rattle.std.proofs.lemmas.Bool.Decides.{nat_tests}
use Rattle.alphabet.specs.Sums.{sum}
use Rattle.code.specs.Cells.{differing}
use Rattle.code.specs.Codes.{Codebook, Apart}
use Rattle.algebra.specs.Agreement.{Same}
use Rattle.algebra.specs.Grids.{row, column, Grid, grids}
use Rattle.alphabet.proofs.Sums.{sum-le, sum_times, sum_columns}
use Rattle.code.proofs.Rows.{length-listed, where_differ, listed_differ}
use Rattle.code.proofs.Costs.{unlike, differing-listed}
use Rattle.algebra.proofs.Grids.{place, column_at, column-column, row-column, row-row}

-- ---- distance of the product
pub unlike_below : (d m x y : ℕ) → (x ≢ y → d ≤ m) → d * unlike x y ≤ m
unfolding unlike
unlike_below d m x y h = grind (arith, nat_tests)

module _ (a b : Codebook) (p : Apart a) (q : Apart b) where
  grid_apart : (u v : List ℕ) → Grid a b u → Grid a b v → u ≢ v → a.d * b.d ≤ differing u v
  unfolding unlike
  grid_apart u v g h ne =
      let m = a.n in
      let n = b.n in
      let r = where_differ (m * n) u v g.sized h.sized ne in
      let at = place m n r.0 r.1 in
      let i = at.i in
      let U : ℕ → ℕ = λ k. get_or u k 0 in
      let V : ℕ → ℕ = λ k. get_or v k 0 in
      let D : ℕ → ℕ = λ k. unlike (U k) (V k) in
      let rows-ne : row n u i ≢ row n v i =
      listed_differ n (λ j. U (i * n + j)) (λ j. V (i * n + j)) at.j at.column_in (rw at.is r.2) in
      let row-far : b.d ≤ sum n (λ j. D (i * n + j)) =
      rw (← differing-listed n (λ j. U (i * n + j)) (λ j. V (i * n + j))) (q.apart _ _ (g.rows i at.row_in) (h.rows i at.row_in) rows-ne) in
      let col-far : (j : ℕ) → j < n → a.d * D (i * n + j) ≤ sum m (λ k. D (k * n + j)) =
      λ j l. unlike_below a.d (sum m (λ k. D (k * n + j))) (U (i * n + j)) (V (i * n + j)) (λ ne.
      rw (← differing-listed m (λ k. U (k * n + j)) (λ k. V (k * n + j))) (p.apart _ _ (g.columns j l) (h.columns j l)
      (listed_differ m (λ k. U (k * n + j)) (λ k. V (k * n + j)) i at.row_in ne))) in
      let all : sum n (λ j. a.d * D (i * n + j)) ≤ sum n (λ j. sum m (λ k. D (k * n + j))) = sum-le n _ _ col-far in
      let whole : differing u v ≡ sum (m * n) D = ap (λ k. sum k D) g.sized in
      omega (arith, whole, sum_columns m n D, all, sum_times n a.d (λ j. D (i * n + j)), mul-le-mul_left a.d row-far)

  grid_symbols : (w : List ℕ) → Grid a b w → (k : ℕ) → k < a.n * b.n → get_or w k 0 < a.q
  grid_symbols w g k h =
      let at = place a.n b.n k h in
      let e = column_at a.n b.n w at.i at.j at.row_in in
      rw (← at.is) (rw e at (p.symbols _ (g.columns at.j at.column_in) at.i at.row_in))

  pub product_apart : Apart (grids a b)
  product_apart = record {
    positive = mul-le-mul p.positive q.positive;
    short = mul-le-mul p.short q.short;
    sized = λ w g. g.sized;
    symbols = grid_symbols;
    apart = grid_apart;
  }

module _ (a b c : Codebook) where
  grids_to : (w : List ℕ) → Grid (grids a b) c w → Grid a (grids b c) w
  grids_to w g = record {
    sized = g.sized ∙ mul_assoc a.n b.n c.n;
    columns = λ j l.
        let at = place b.n c.n j l in
        subst (λ x. a.Word (column a.n (b.n * c.n) w x)) at.is
        (subst a.Word (column-column a.n b.n c.n w at.i at.j at.row_in at.column_in)
        ((g.columns at.j at.column_in).columns at.i at.row_in));
    rows = λ i l. record {
      sized = length-listed (b.n * c.n) _;
      columns = λ j q. subst b.Word (row-column a.n b.n c.n w i j l q) ((g.columns j q).rows i l);
      rows = λ k q. subst c.Word (row-row a.n b.n c.n w i k q) (g.rows (i * b.n + k) (digits_lt l q));
    };
  }

  grids_from : (w : List ℕ) → Grid a (grids b c) w → Grid (grids a b) c w
  grids_from w g = record {
    sized = g.sized ∙ sym (mul_assoc a.n b.n c.n);
    columns = λ j l. record {
      sized = length-listed (a.n * b.n) _;
      columns = λ k q. subst a.Word (sym (column-column a.n b.n c.n w k j q l)) (g.columns (k * c.n + j) (digits_lt q l));
      rows = λ i q. subst b.Word (sym (row-column a.n b.n c.n w i j q l)) ((g.rows i q).columns j l);
    };
    rows = λ k l.
        let at = place a.n b.n k l in
        subst (λ x. c.Word (row c.n w x)) at.is
        (subst c.Word (sym (row-row a.n b.n c.n w at.i at.j at.column_in))
        ((g.rows at.i at.row_in).rows at.j at.column_in));
  }

  pub grids_assoc : Same (grids (grids a b) c) (grids a (grids b c))
  grids_assoc = record {
    symbols = refl;
    long = mul_assoc a.n b.n c.n;
    distance = mul_assoc a.d b.d c.d;
    to = grids_to;
    from = grids_from;
  }
