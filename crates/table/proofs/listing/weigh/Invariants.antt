use Rattle.std.proofs.Common.{◌≡◌, not, ◌==◌, count_by, take}
use Rattle.table.proofs.listing.weigh.Given as goal

abbrev pub invariant-loop-symbol : goal.invariant-loop-symbol
invariant-loop-symbol l = l.weight ≡ count_by (λ x. not (x == 0)) (take l.symbol-index l.word)
