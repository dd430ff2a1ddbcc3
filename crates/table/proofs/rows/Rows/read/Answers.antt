use Rattle.std.proofs.Common.{◌≡◌, ℕ, ◌-◌, ◌++◌, drop, ap, ◌∙◌, arith, length-take}
use Rattle.code.specs.Cells.{zeroed}
use Rattle.code.proofs.Checks.{reads_sized}
use Rattle.code.proofs.Rows.{zeroed-over}
use Rattle.table.proofs.rows.Rows.read.Goals as goal

pub returns : goal.returns
returns g c =
    let n : ℕ = c.length-n.result in
    let all : n ≡ n - 0 = omega arith in
    let over = ap (λ j. zeroed n (c.read_nearest-verdict.new.word ++ drop j c.args.work.now)) all
    ∙ zeroed-over n c.read_nearest-verdict.new.word c.args.work.now (omega (arith, c.read_nearest-verdict.auto.word, length-take n c.args.work.now, c.in_ok-check_read.ensures.passed.2)) c.in_ok-check_read.ensures.passed.2 in
    reads_sized (rw c.length-n.ensures at c.in_ok-check_read.ensures.is) (rw c.length-n.ensures at (c.zero_front.ensures ∙ over)) c.read_nearest-verdict.ensures
