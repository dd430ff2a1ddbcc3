use Rattle.std.proofs.Common.{◌≡◌, ℕ, ◌<◌, get_or}
use Rattle.algebra.specs.Grids.{laid}
use Rattle.product.proofs.whole.Product.pick.Given as goal

abbrev pub invariant-loop-i : goal.invariant-loop-i
invariant-loop-i g l =
    (k : ℕ) → k < l.i → get_or l.answer k 0 ≡ get_or l.word ((laid (g.B.Code.codebook l.self.rows) (g.A.Code.layout l.self.columns) (g.B.Code.layout l.self.rows)).place k) 0
