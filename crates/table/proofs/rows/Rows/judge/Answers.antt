use Rattle.std.proofs.Common.{◌∙◌, get_or, arith, rules}
use Rattle.code.proofs.Checks.{judges_passed}
use Rattle.table.specs.Rows.{generator_of}
use Rattle.table.proofs.Parts.{symbol_good, agreed, agrees}
use Rattle.table.proofs.rows.Rows.judge.Goals as goal

pub returns : goal.returns
returns g c =
    let s = generator_of c.args.self.now in
    let ring = g.met.S.Alphabet.ring in
    let cut = c.split_at.ensures in
    let sized = c.in_ok-check_lawful.ensures.passed.0 ∙ c.length-n.ensures in
    judges_passed c.Q.ensures (rw c.length-n.ensures at c.in_ok-check_lawful.ensures.is) c.in_ok-check_cells.ensures.is (rw c.length-n.ensures at c.zero_front.ensures) (
      λ t. agreed s ring _ _ _ cut.front cut.back sized
          (λ i l. symbol_good (get_or c.args.cells.now i 0) s.q c.Q.result c.Q.ensures (c.in_ok-check_cells.ensures.passed i (omega (arith, sized))))
          (c.agree.ensures.0 (grind rules)),
      λ t. let yes = c.agree.ensures.1 (agrees s ring _ _ _ cut.front cut.back t) in grind rules,
    )
