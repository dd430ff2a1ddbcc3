use Rattle.std.proofs.Common.{ℕ, get_or, ap, ◌∙◌}
use Rattle.std.proofs.lemmas.List.{get_or-take}
use Rattle.code.proofs.Checks.{takes_passed}
use Rattle.code.proofs.Rows.{is_listed}
use Rattle.table.proofs.rows.Rows.take_out.Goals as goal

pub returns : goal.returns
returns g c =
    let k : ℕ = c.args.self.now.k in
    takes_passed c.Q.ensures (rw c.length-n.ensures at c.in_ok-check_take_out.ensures.is) c.in_ok-check_cells.ensures.is
    (is_listed k (λ i. get_or c.args.word.now i 0) c.copy_from_slice.new.self (c.copy_from_slice.ensures.len ∙ c.in_ok-check_take_out.ensures.passed.1)
    (λ i l. ap (λ u. get_or u i 0) c.copy_from_slice.ensures.after ∙ get_or-take k c.args.word.now i 0 l))
