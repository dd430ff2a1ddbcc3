use Rattle.std.proofs.Common.{◌≡◌, ℕ, ◌+◌, ◌*◌, ◌<◌, ◌≤◌, List, length, sym, refl, ◌∙◌, arith}
use Rattle.algebra.specs.Grids.{row, column}
use Rattle.algebra.proofs.Places.{row_end, row_within}
use Rattle.algebra.proofs.Lines.{ready_columns, ready_rows}
use Rattle.algebra.proofs.Wholes.{moved}
use Rattle.product.proofs.whole.Product.grid_lawful.Goals as goal

pub columns_lawful-requires-clause-ready : goal.columns_lawful-requires-clause-ready
columns_lawful-requires-clause-ready g c =
    let a = g.A.Code.codebook c.args.self.now.columns in
    let ready = ready_columns (g.met.A.Code.apart c.args.self.now.columns) (g.met.B.Code.apart c.args.self.now.rows) c.requires.ready a.n a.working refl (omega arith) in
    record { short = ready.short; room = omega (arith, c.requires.ready.room); roomy = ready.roomy; symbols = ready.symbols }

pub rows_lawful-requires-clause-ready : goal.rows_lawful-requires-clause-ready
rows_lawful-requires-clause-ready g c =
    let same = g.met.A.Code.symbols c.args.self.now.columns ∙ sym (g.met.B.Code.symbols c.args.self.now.rows) in
    ready_rows (g.met.A.Code.apart c.args.self.now.columns) (g.met.B.Code.apart c.args.self.now.rows) c.requires.ready same _ _ c.length_of-n2.ensures (omega arith)

pub returns-then-columns_lawful : goal.returns-then-columns_lawful
returns-then-columns_lawful g c =
    let a = g.A.Code.codebook c.args.self.now.columns in
    let b = g.B.Code.codebook c.args.self.now.rows in
    let x : List ℕ = c.args.cells.now in
    let e2 = c.length_of-n2.ensures in
    let size : length x ≡ a.n * b.n = sym c.requires.ready.long in
    let q = g.met.B.Code.apart c.args.self.now.rows in
    let pos : 0 < b.n = omega (arith, q.positive, q.short) in (
      λ t. record {
        sized = size;
        columns = moved (λ n m d. (j : ℕ) → j < m → a.Word (column a.n m x j)) e2 e2 e2 (c.if-columns_lawful.ensures.0 tt);
        rows = λ i l. moved (λ n m d. i * m + m ≤ length x → b.Word (row m x i)) e2 e2 e2 (c.rows_lawful.ensures.0 t i) (omega (arith, size, row_end b.n i a.n l));
      },
      λ h. c.rows_lawful.ensures.1 (λ i l. moved (λ n m d. i * m + m ≤ length x → b.Word (row m x i)) (sym e2) (sym e2) (sym e2) (λ k. h.rows i (row_within b.n i a.n pos (omega (arith, size, k)))) l),
    )
