use Rattle.std.proofs.Common.{ℕ, ◌<◌, ◌≤◌, get_or}
use Rattle.alphabet.specs.Sums.{sum}
use Rattle.code.specs.Cells.{Holds, price}
use Rattle.code.specs.declared.cells.Content.TheVariants.{Received}
use Rattle.repetition.specs.Votes.{Led}
use Rattle.repetition.proofs.votes.elect.Given as goal

abbrev pub invariant-loop-cell : goal.invariant-loop-cell
invariant-loop-cell l =
    (l.vote.lead ≤ l.cell-index)
    × ((v : ℕ) → Led l.vote v l.cell-index (sum l.cell-index (λ k. price (get_or l.received k 0) v)))
    × ((q : ℕ) → 0 < q → Holds Received q l.received → l.vote.candidate < q)
