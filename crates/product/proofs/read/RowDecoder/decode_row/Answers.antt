use Rattle.std.proofs.Common.{ℕ, ◌+◌, false, List, subst, arith, below_more}
use Rattle.algebra.specs.Parts.{HeavyAt, Renewed}
use Rattle.algebra.proofs.Lines.{decoded_none}
use Rattle.product.proofs.read.RowDecoder.decode_row.Goals as goal

pub returns : goal.returns
returns g c =
    decoded_none (g.C.Code.codebook c.args.self.now.code.now) c.args.self.now.weights.most c.args.self.now.weights.each.now c.args.cells.now c.requires.row.ready.symbols c.requires.row.weighed
    (λ k l. c.loop-t.invariant.1 k (omega (arith, c.loop-t-test.false)))

pub loop-t-preserved : goal.loop-t-preserved
loop-t-preserved g c =
    let s = g.C.Code.codebook c.args.self.now.code.now in (
      c.loop-t.invariant.0,
      below_more (λ k. HeavyAt s c.args.self.now.weights.most c.args.self.now.weights.each.now c.args.cells.now (k + 1)) c.loop-t.t c.loop-t.invariant.1
          (subst (λ (x : List ℕ). Renewed s c.args.self.now.weights.most c.args.self.now.weights.each.now x c.loop-t.t c.try_fresh.new.word false) c.loop-t.invariant.0 c.if-try_fresh.ensures c.loop-t.invariant.1),
    )
