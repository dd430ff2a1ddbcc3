use Rattle.std.proofs.lemmas.List.FromFn.{fill_by_all}
use Rattle.std.proofs.Common.{cond, leb, get_or, arith}
use Rattle.code.specs.Cells.{blank}
use Rattle.product.proofs.read.Weights.cut.Goals as goal

pub returns : goal.returns
returns c =
    fill_by_all (λ k. cond (leb c.args.t (get_or c.args.self.now.each.now k 0)) blank (get_or c.args.cells.now k 0)) _ _ 0 c.loop-j.auto.line (λ k h. c.loop-j.invariant k (omega arith))
