use Rattle.std.proofs.Common.{◌≡◌, ℕ, ◌<◌, ◌≤◌, length}
use Rattle.code.specs.Codes.{taken}
use Rattle.algebra.specs.Grids.{column}
use Rattle.algebra.specs.Parts.{Printed}
use Rattle.product.proofs.print.encode_columns.Given as goal

abbrev pub invariant-loop-j : goal.invariant-loop-j
invariant-loop-j g l =
    ((k : ℕ) → k < l.j → Printed (g.C.Code.codebook l.code) (g.C.Code.layout l.code) (taken (g.C.Code.layout l.code) (column (length l.word) l.n2 l.initial.grid k)) (column (length l.word) l.n2 l.grid k))
    × ((k : ℕ) → l.j ≤ k → k < l.n2 → column (length l.word) l.n2 l.grid k ≡ column (length l.word) l.n2 l.initial.grid k)
