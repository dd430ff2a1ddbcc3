use Rattle.std.proofs.Common.{◌*◌, ◌≢◌, None, ap, ◌∙◌, arith}
use Rattle.std.proofs.lemmas.Bool.{cond_above}
use Rattle.code.specs.Calls.{answered_place}
use Rattle.algebra.proofs.Places.{side1, side2}
use Rattle.algebra.proofs.Combining.{absent_up, place_below}
use Rattle.product.proofs.whole.Product.combine_places.Goals as goal

pub returns-in_err-up-clause-is : goal.returns-in_err-up-clause-is
returns-in_err-up-clause-is g c =
    let a = g.A.Code.codebook c.args.self.now.columns in
    let b = g.B.Code.codebook c.args.self.now.rows in
    let la = g.A.Code.layout c.args.self.now.columns in
    let p = g.met.A.Code.apart c.args.self.now.columns in
    let q = g.met.B.Code.apart c.args.self.now.rows in
    let up = c.in_ok-checked_div.ensures in
    let some : c.message_length_of-k2.result ≢ 0 = λ z. omega (arith, up.0, z) in
    cond_above 4096 (a.n * b.n) None _ _ c.requires
    (c.from_residual-in_err-up.ensures ∙ absent_up a b la (g.B.Code.layout c.args.self.now.rows) c.args.i _ _
    c.message_length_of-k2.ensures.0 c.length_of-n2.ensures some
    (side1 a.n b.n _ (omega (arith, q.positive, q.short)) c.requires) (side2 a.n b.n _ (omega (arith, p.positive, p.short)) c.requires)
    (c.in_err-up.ensures ∙ ap (answered_place a la) up.1))

pub returns-clause-inside : goal.returns-clause-inside
returns-clause-inside g c =
    let a = g.A.Code.codebook c.args.self.now.columns in
    let b = g.B.Code.codebook c.args.self.now.rows in
    let la = g.A.Code.layout c.args.self.now.columns in
    let p = g.met.A.Code.apart c.args.self.now.columns in
    let q = g.met.B.Code.apart c.args.self.now.rows in
    let up = c.in_ok-checked_div.ensures in
    let some : c.message_length_of-k2.result ≢ 0 = λ z. omega (arith, up.0, z) in
    place_below a b la (g.B.Code.layout c.args.self.now.rows) c.args.i _ _
    c.message_length_of-k2.ensures.0 c.length_of-n2.ensures some
    (side1 a.n b.n _ (omega (arith, q.positive, q.short)) c.requires) (side2 a.n b.n _ (omega (arith, p.positive, p.short)) c.requires)
    c.in_ok-up.up c.in_ok-along.along (c.in_ok-up.ensures ∙ ap (answered_place a la) up.1) c.in_ok-along.ensures
    (g.met.A.Code.linear c.args.self.now.columns).inside (g.met.B.Code.linear c.args.self.now.rows).inside
