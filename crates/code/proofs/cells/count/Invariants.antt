use Rattle.std.proofs.Common.{◌≡◌, ◌+◌, ◌≤◌, length, get_or}
use Rattle.alphabet.specs.Sums.{sum}
use Rattle.code.specs.Cells.{wrong, faint}
use Rattle.code.proofs.cells.count.Given as goal

abbrev pub invariant-loop-cell : goal.invariant-loop-cell
invariant-loop-cell l =
    (l.wrong ≡ sum (length l.yielded) (λ i. wrong (get_or l.received i 0) (get_or l.word i 0)))
    × (l.blank ≡ sum (length l.yielded) (λ i. faint (get_or l.received i 0)))
    × (l.wrong + l.blank ≤ length l.yielded)
