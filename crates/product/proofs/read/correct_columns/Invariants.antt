use Rattle.std.proofs.Common.{ℕ, ◌<◌, get_or}
use Rattle.algebra.specs.Grids.{column}
use Rattle.algebra.specs.Weights.{Found}
use Rattle.product.proofs.read.correct_columns.Given as goal

abbrev pub invariant-loop-j : goal.invariant-loop-j
invariant-loop-j g l =
    (k : ℕ) → k < l.j → Found (g.C.Code.codebook l.code) (column l.n1 l.n2 l.received k) (column l.n1 l.n2 l.grid k) (get_or l.weights k 0)
