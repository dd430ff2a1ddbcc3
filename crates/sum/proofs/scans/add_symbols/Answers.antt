use Rattle.std.proofs.Common.{arith}
use Rattle.sum.proofs.Scanning.{add_more}
use Rattle.sum.proofs.scans.add_symbols.Goals as goal

pub loop-cell-preserved : goal.loop-cell-preserved
loop-cell-preserved g c =
    add_more g.met.S.Alphabet.ring c.args.cells.now c.requires c.loop-cell.cell-index c.loop-cell.total c.add-total.result (omega arith) c.loop-cell.invariant c.add-total.ensures
