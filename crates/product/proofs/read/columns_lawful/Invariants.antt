use Rattle.std.proofs.Common.{ℕ, ◌<◌}
use Rattle.algebra.specs.Grids.{column}
use Rattle.product.proofs.read.columns_lawful.Given as goal

abbrev pub invariant-loop-j : goal.invariant-loop-j
invariant-loop-j g l = (k : ℕ) → k < l.j → (g.C.Code.codebook l.code).Word (column (g.C.Code.codebook l.code).n l.n2 l.grid k)
