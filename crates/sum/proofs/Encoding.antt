-- Encoding puts the negative of the message's sum behind the message. Assumes nothing.
use Rattle.std.proofs.Common.{◌≡◌, ℕ, ◌-◌, ◌%◌, ◌<◌, ◌≤◌, true, List, ◌++◌, length, get_or, set, ap, ◌∙◌, mod-eq_of_lt, arith, length-append, length-set, get_or-set_other, get_or-set_same}
use Rattle.std.proofs.lemmas.List.{get_or_append_left}
use Rattle.std.proofs.lemmas.Bool.Decides.{nat_tests}
use Rattle.alphabet.specs.Rings.{Ring}
use Rattle.alphabet.specs.Sums.{added}
use Rattle.alphabet.proofs.Additions.{added_closed}
use Rattle.code.specs.Cells.{good, Holds}
use Rattle.code.specs.Codes.{Message, Carries}
use Rattle.code.specs.declared.cells.Content.TheVariants.{Word}
use Rattle.sum.specs.Balance.{Balanced, but_last}
use Rattle.sum.specs.BalanceLemmas.{completed}

symbol : (q x : ℕ) → good Word q x ≡ true → x < q
symbol q x h = grind (arith, nat_tests)

module _ {q : ℕ} {add : ℕ → ℕ → ℕ} {neg : ℕ → ℕ} {mul : ℕ → ℕ → ℕ} (ring : Ring q add neg mul) (n : ℕ) (long : 2 ≤ n)
    (m : List ℕ) (sized : length m ≡ n - 1) (clean : Holds Word q m) where
  message : Message q (n - 1) m
  message = record { sized = sized; symbols = λ i l. symbol q (get_or m i 0) (clean i (omega arith)) }

  -- t is the message's sum, and v its negative
  module _ (t v : ℕ) (total : t ≡ added add (length m) (λ i. get_or m i 0)) (negative : v ≡ neg (t % q)) (rest : List ℕ) (room : length rest ≡ 1) where
    sum_is : t ≡ added add (n - 1) (λ i. get_or m i 0)
    sum_is = total ∙ ap (λ k. added add k (λ i. get_or m i 0)) sized

    below : t < q
    below = rw sum_is (added_closed ring (n - 1) (λ i. get_or m i 0) message.symbols)

    long_enough : length (m ++ rest) ≡ n
    long_enough = omega (arith, length-append m rest)

    pub carries : Carries (but_last n) m (set (m ++ rest) (n - 1) v)
    carries i h =
        get_or-set_other (m ++ rest) (n - 1) i v 0 (λ e. omega arith) ∙ get_or_append_left m rest 0 i (omega arith)

    pub encoded : Balanced add q n (set (m ++ rest) (n - 1) v)
    encoded =
        completed ring n long m (set (m ++ rest) (n - 1) v) message
        (length-set (m ++ rest) (n - 1) v ∙ long_enough) carries
        (get_or-set_same (m ++ rest) (n - 1) v 0 (omega (arith, long_enough)) ∙ negative ∙ ap neg (mod-eq_of_lt below ∙ sum_is))
