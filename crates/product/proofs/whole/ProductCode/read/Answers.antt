use Rattle.std.proofs.Common.{◌≡◌, ℕ, List, length, ◌∙◌}
use Rattle.algebra.specs.Grids.{grids}
use Rattle.code.proofs.Checks.{reads_sized}
use Rattle.algebra.proofs.Places.{wiped}
use Rattle.algebra.proofs.Sizes.{gate_answered, worked}
use Rattle.product.proofs.whole.ProductCode.read.Goals as goal

pub returns : goal.returns
returns g c =
    let s = grids (g.A.Code.codebook c.args.self.now.columns) (g.B.Code.codebook c.args.self.now.rows) in
    let r : ℕ = length c.args.received.now in
    let a : ℕ = length c.args.answer.now in
    let k : List ℕ = c.args.work.now in
    let n : ℕ = c.length-n.result in
    let w : ℕ = c.working_cells-working.result in
    let is = c.in_ok-check_read.ensures.is in
    let wide : w ≡ s.working = worked s n w r n a n (length k) w c.length-n.ensures c.working_cells-working.ensures is in
    reads_sized (is ∙ gate_answered s n w r a (length k) c.length-n.ensures c.working_cells-working.ensures)
    (wiped w s.working k c.attempt-verdict.new.work _ wide c.in_ok-check_read.ensures.passed.2 c.attempt-verdict.auto.work c.zero_front.ensures)
    c.attempt-verdict.ensures
