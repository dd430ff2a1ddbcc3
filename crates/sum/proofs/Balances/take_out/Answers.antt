use Rattle.std.proofs.Common.{◌≡◌, ℕ, ◌-◌, List, get_or, take, ap, ◌∙◌, arith}
use Rattle.std.proofs.lemmas.List.{get_or-take}
use Rattle.code.proofs.Checks.{takes_passed}
use Rattle.code.proofs.Rows.{is_listed}
use Rattle.sum.proofs.Balances.take_out.Goals as goal

pub returns : goal.returns
returns g c =
    let w : List ℕ = c.args.word.now in
    let k : ℕ = c.args.self.now.n - 1 in
    let fit = c.in_ok-check_take_out.ensures.passed in
    let a : List ℕ = c.copy_from_slice.new.self in
    let copied : a ≡ take (k - 0) w = c.copy_from_slice.ensures.after in
    takes_passed c.Q.ensures
    c.in_ok-check_take_out.ensures.is c.in_ok-check_cells.ensures.is
    (is_listed k (λ i. get_or w i 0) a (omega (arith, c.copy_from_slice.ensures.len)) (λ i l. ap (λ u. get_or u i 0) copied ∙ get_or-take (k - 0) w i 0 (omega arith)))
