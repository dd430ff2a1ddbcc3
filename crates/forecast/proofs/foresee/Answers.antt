use Rattle.std.proofs.Common.{◌≡◌, ℕ, List, length, arith}
use Rattle.code.specs.Cells.{cost}
use Rattle.forecast.specs.Forecasts.{forecast}
use Rattle.forecast.proofs.Foretelling.{foretold}
use Rattle.forecast.proofs.foresee.Goals as goal

pub returns-clause-comes_true : goal.returns-clause-comes_true
returns-clause-comes_true g c = λ word.
    let b = g.C.Code.codebook c.args.code.now in
    let l = g.C.Code.layout c.args.code.now in
    let apart = g.met.C.Code.apart c.args.code.now in
    let w : List ℕ = c.args.printed.now in
    let r : List ℕ = c.args.received.now in
    let counted = c.in_ok-counts.ensures.is in
    let sized : length r ≡ b.n = omega arith in
    let far : c.distance.result ≡ b.d = omega (arith, apart.short) in
    let price : c.cost.result ≡ cost r w = omega (arith, c.cost.ensures, c.in_ok-counts.ensures.few, counted, apart.short) in
    let is : c.forecast_at.result ≡ forecast (cost r w) b.d = rw (price, far) at c.forecast_at.ensures in
    rw is (foretold b apart l w r word sized)
