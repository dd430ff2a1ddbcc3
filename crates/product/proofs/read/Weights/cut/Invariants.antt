use Rattle.std.proofs.Common.{◌≡◌, ℕ, ◌<◌, cond, leb, get_or}
use Rattle.code.specs.Cells.{blank}
use Rattle.product.proofs.read.Weights.cut.Given as goal

abbrev pub invariant-loop-j : goal.invariant-loop-j
invariant-loop-j l = (k : ℕ) → k < l.j → get_or l.line k 0 ≡ cond (leb l.t (get_or l.self.each.now k 0)) blank (get_or l.cells k 0)
