use Rattle.std.proofs.Common.{◌≡◌, ℕ, List, length, ◌∙◌, mul-le-mul, arith, rules}
use Rattle.std.proofs.lemmas.Grind.{common_steps}
use Rattle.algebra.specs.Grids.{grids, laid}
use Rattle.code.proofs.Checks.{encodes-sized}
use Rattle.algebra.proofs.Places.{wiped}
use Rattle.algebra.proofs.Sizes.{gate_encode, worked}
use Rattle.product.proofs.whole.ProductCode.encode.Goals as goal

pub returns-in_err-check_encode : goal.returns-in_err-check_encode
returns-in_err-check_encode g c =
    let few = mul-le-mul (g.met.A.Code.linear c.args.self.now.columns).few (g.met.B.Code.linear c.args.self.now.rows).few in
    search rules

pub print-verdict-requires-clause-long : goal.print-verdict-requires-clause-long
print-verdict-requires-clause-long g c =
    let few = mul-le-mul (g.met.A.Code.linear c.args.self.now.columns).few (g.met.B.Code.linear c.args.self.now.rows).few in
    grind (arith, common_steps)

pub returns : goal.returns
returns g c =
    let b = g.B.Code.codebook c.args.self.now.rows in
    let s = grids (g.A.Code.codebook c.args.self.now.columns) b in
    let l = laid b (g.A.Code.layout c.args.self.now.columns) (g.B.Code.layout c.args.self.now.rows) in
    let few = mul-le-mul (g.met.A.Code.linear c.args.self.now.columns).few (g.met.B.Code.linear c.args.self.now.rows).few in
    let m : ℕ = length c.args.message.now in
    let a : ℕ = length c.args.answer.now in
    let k : List ℕ = c.args.work.now in
    let n : ℕ = c.length-n.result in
    let w : ℕ = c.working_cells-w.result in
    let is = c.in_ok-check_encode.ensures.is in
    let wide : w ≡ s.working = worked s n w m c.message_length-k.result a n (length k) w c.length-n.ensures c.working_cells-w.ensures is in
    encodes-sized (is ∙ gate_encode s n w m c.message_length-k.result l.k a (length k) c.length-n.ensures c.working_cells-w.ensures c.message_length-k.ensures few)
    (wiped w s.working k c.print-verdict.new.work _ wide c.in_ok-check_encode.ensures.passed.2 c.print-verdict.auto.work c.zero_front.ensures)
    c.print-verdict.ensures
