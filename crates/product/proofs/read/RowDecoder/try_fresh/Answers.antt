use Rattle.algebra.proofs.Lines.{stale, renewed}
use Rattle.std.proofs.Common.{length, arith}
use Rattle.product.proofs.read.RowDecoder.try_fresh.Goals as goal

pub returns-else-is_fresh : goal.returns-else-is_fresh
returns-else-is_fresh g c =
    let told = c.if-is_fresh.ensures in
    rw c.if-is_fresh.false
    (stale (g.C.Code.codebook c.args.self.now.code.now) c.args.self.now.weights.most c.args.self.now.weights.each.now c.args.cells.now c.args.t (length c.args.cells.now) c.requires.row.ready.long told.0
    (λ j h. told.1 j (omega (arith, c.requires.row.weights_is, h))))

pub returns-then-is_fresh : goal.returns-then-is_fresh
returns-then-is_fresh g c =
    renewed (g.C.Code.codebook c.args.self.now.code.now) c.args.self.now.weights.most c.args.self.now.weights.each.now c.args.cells.now c.args.t c.try_row.new.word c.try_row.result c.try_row.ensures
