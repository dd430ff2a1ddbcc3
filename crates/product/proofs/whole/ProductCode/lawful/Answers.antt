use Rattle.std.proofs.Common.{◌≡◌, ℕ, List, length, ◌∙◌}
use Rattle.algebra.specs.Grids.{grids}
use Rattle.code.proofs.Checks.{judges-sized}
use Rattle.algebra.proofs.Places.{wiped}
use Rattle.algebra.proofs.Sizes.{gate_judge, worked}
use Rattle.product.proofs.whole.ProductCode.lawful.Goals as goal

pub returns : goal.returns
returns g c =
    let s = grids (g.A.Code.codebook c.args.self.now.columns) (g.B.Code.codebook c.args.self.now.rows) in
    let r : ℕ = length c.args.cells.now in
    let k : List ℕ = c.args.work.now in
    let n : ℕ = c.length-n.result in
    let w : ℕ = c.working_cells-w.result in
    let is = c.in_ok-check_lawful.ensures.is in
    let wide : w ≡ s.working = worked s n w r n 0 0 (length k) w c.length-n.ensures c.working_cells-w.ensures is in
    judges-sized (is ∙ gate_judge s n w r (length k) c.length-n.ensures c.working_cells-w.ensures)
    (wiped w s.working k c.judge-verdict.new.work _ wide c.in_ok-check_lawful.ensures.passed.1 c.judge-verdict.auto.work c.zero_front.ensures)
    c.judge-verdict.ensures
