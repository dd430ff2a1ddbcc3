use Rattle.std.proofs.Common.{◌≡◌, ℕ, ◌+◌, ◌<◌}
use Rattle.algebra.specs.Parts.{HeavyAt}
use Rattle.product.proofs.read.RowDecoder.decode_row.Given as goal

abbrev pub invariant-loop-t : goal.invariant-loop-t
invariant-loop-t g l =
    (l.cells ≡ l.initial.cells)
    × ((k : ℕ) → k < l.t → HeavyAt (g.C.Code.codebook l.self.code.now) l.self.weights.most l.self.weights.each.now l.initial.cells (k + 1))
