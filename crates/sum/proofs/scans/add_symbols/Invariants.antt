use Rattle.std.proofs.Common.{◌≡◌, slice_index}
use Rattle.alphabet.specs.Sums.{added}
use Rattle.sum.proofs.scans.add_symbols.Given as goal

abbrev pub invariant-loop-cell : goal.invariant-loop-cell
invariant-loop-cell g l = l.total ≡ added g.S.Alphabet.plus l.cell-index (λ i. slice_index l.cells i)
