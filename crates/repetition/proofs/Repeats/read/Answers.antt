use Rattle.std.proofs.Common.{◌≡◌, ℕ, ◌<◌, ◌≤◌, ◌≢◌, List, length, replicate, sym, refl, ap, ◌∙◌, subst, arith}
use Rattle.code.specs.Cells.{wrongs, blanks, cost}
use Rattle.code.specs.Calls.{Within}
use Rattle.code.proofs.Checks.{reads_passed}
use Rattle.code.proofs.Costs.{within}
use Rattle.alphabet.proofs.Symbols.{zero_in}
use Rattle.repetition.specs.Repeats.{repeats}
use Rattle.repetition.specs.RepeatsLemmas.{repeats_apart, word, front, none_near}
use Rattle.repetition.proofs.Repeats.read.Goals as goal

pub returns-then-cost-self : goal.returns-then-cost-self
returns-then-cost-self g c =
    let r : List ℕ = c.args.received.now in
    let n : ℕ = c.args.self.now.n in
    let v : ℕ = c.elect-symbol.result in
    let long : length r ≡ n = c.in_ok-check_read.ensures.passed.0 in
    let counted = c.in_ok-counts.ensures.is in
    let wrong-is : c.in_ok-counts.counts.wrong ≡ wrongs r (replicate n v) = counted.1 ∙ ap (wrongs r) (front n 64 v c.args.self.now.high) in
    let blank-is : c.in_ok-counts.counts.blank ≡ blanks r = counted.2 in
    let here : n ≤ cost r (replicate n v) = omega (arith, c.if-cost-self.true, c.cost.ensures) in
    let others : (u : ℕ) → u ≢ v → n ≤ cost r (replicate n u) =
    λ u ne. subst (λ (m : ℕ). m ≤ cost r (replicate m u)) long (c.elect-symbol.ensures.others u ne) in
    reads_passed {a' = c.args.answer.now} c.Q.ensures
    c.in_ok-check_read.ensures.is c.in_ok-check_cells.ensures.is refl
    (c.at.ensures, none_near g.S.Alphabet.Q n v r others here, refl)

pub returns : goal.returns
returns g c =
    let r : List ℕ = c.args.received.now in
    let n : ℕ = c.args.self.now.n in
    let q : ℕ = g.S.Alphabet.Q in
    let v : ℕ = c.elect-symbol.result in
    let fit = c.in_ok-check_read.ensures.passed in
    let counted = c.in_ok-counts.ensures.is in
    let below : v < q =
    subst (λ (m : ℕ). v < m) c.Q.ensures
    (c.elect-symbol.ensures.symbol c.Q.result (omega (arith, zero_in g.met.S.Alphabet.ring, c.Q.ensures)) c.in_ok-check_cells.ensures.passed) in
    let near : Within (repeats q n) r (replicate n v) c.in_ok-counts.counts =
    within (repeats q n) (repeats_apart q n c.args.self.now.low) r fit.0 (replicate n v) c.in_ok-counts.counts
    (word q n v below)
    (counted.1 ∙ ap (wrongs r) (front n 64 v c.args.self.now.high)) counted.2 (omega (arith, c.if-cost-self.false, c.cost.ensures)) in
    let filled : c.fill.new.self ≡ replicate n v = c.fill.ensures.after (λ y e. e) ∙ ap (λ m. replicate m v) fit.1 in
    reads_passed {a' = c.fill.new.self} c.Q.ensures
    c.in_ok-check_read.ensures.is c.in_ok-check_cells.ensures.is refl
    (subst (λ (a : List ℕ). Within (repeats q n) r a c.in_ok-counts.counts) (sym filled) near)
