use Rattle.std.proofs.Common.{◌≡◌, ℕ, List, length, get_or, replicate, ap, ◌∙◌, arith}
use lib.ListN.{get_or-replicate}
use Rattle.std.proofs.lemmas.Bool.Decides.{nat_tests}
use Rattle.alphabet.specs.Sums.{sum}
use Rattle.alphabet.proofs.Sums.{sum_same, sum_more}
use Rattle.code.specs.Cells.{price, cost}
use Rattle.code.proofs.Costs.{cost_is}
use Rattle.repetition.proofs.votes.elect.Goals as goal

pub loop-cell-preserved : goal.loop-cell-preserved
loop-cell-preserved c = (
  omega arith,
  λ v. rw (sum_more _ _) (c.cast-vote.ensures.leads v _ _ (c.loop-cell.invariant.1 v)),
  λ q some each. c.cast-vote.ensures.symbol q (c.loop-cell.invariant.2 q some each) (each c.loop-cell.cell-index (omega arith)),
)

pub returns-clause-others : goal.returns-clause-others
returns-clause-others c v ne =
    let r : List ℕ = c.args.received.now in
    let n : ℕ = length r in
    let row : cost r (replicate n v) ≡ sum n (λ k. price (get_or r k 0) v) =
    cost_is r (replicate n v) ∙ sum_same n _ _ (λ k l. ap (price (get_or r k 0)) (get_or-replicate n k v 0 l)) in
    let led = c.loop-cell.invariant.1 v in
    let whole : c.loop-cell.cell-index ≡ n = omega arith in
    let same = ap (λ i. sum i (λ k. price (get_or r k 0) v)) whole in
    grind (arith, nat_tests)
