use Rattle.std.proofs.Common.{◌≡◌, ◌*◌, ◌≤◌, length, get_or}
use Rattle.algebra.specs.Weights.{heft}
use Rattle.product.proofs.read.Weights.weigh.Given as goal

abbrev pub invariant-loop-cell : goal.invariant-loop-cell
invariant-loop-cell l =
    (l.total ≡ heft (length l.yielded) l.self.most (λ k. get_or l.self.each.now k 0) l.cells l.word) × (l.total ≤ 8192 * length l.yielded)
