use Rattle.std.proofs.Common.{◌≡◌, ℕ, ◌<◌, ◌≤◌}
use Rattle.algebra.specs.Grids.{row}
use Rattle.algebra.specs.Parts.{Light}
use Rattle.product.proofs.read.RowDecoder.decode_rows.Given as goal

abbrev pub invariant-loop-i : goal.invariant-loop-i
invariant-loop-i g l =
    ((k : ℕ) → k < l.i → Light (g.C.Code.codebook l.self.code.now) l.self.weights.most l.self.weights.each.now (row l.n2 l.initial.grid k) (row l.n2 l.grid k))
    × ((k : ℕ) → l.i ≤ k → k < l.n1 → row l.n2 l.grid k ≡ row l.n2 l.initial.grid k)
