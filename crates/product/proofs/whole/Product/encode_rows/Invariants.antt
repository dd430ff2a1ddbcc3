use Rattle.std.proofs.Common.{ℕ, ◌<◌}
use Rattle.algebra.specs.Grids.{row}
use Rattle.algebra.specs.Parts.{Printed}
use Rattle.product.proofs.whole.Product.encode_rows.Given as goal

abbrev pub invariant-loop-l : goal.invariant-loop-l
invariant-loop-l g l =
    (k : ℕ) → k < l.l → Printed (g.B.Code.codebook l.self.rows) (g.B.Code.layout l.self.rows) (row l.k2 l.message k) (row l.n2 l.grid ((g.A.Code.layout l.self.columns).place k))
