use Rattle.sum.specs.Scans.{Scanned, tally}
use Rattle.sum.proofs.scans.scan_cells.Given as goal

abbrev pub invariant-loop-i : goal.invariant-loop-i
invariant-loop-i g l = Scanned g.S.Alphabet.plus l.received l.i (tally l.scan)
