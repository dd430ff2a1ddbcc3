use Rattle.std.proofs.Common.{◌≡◌, ℕ, length, sym, subst, arith}
use Rattle.algebra.specs.Grids.{column}
use Rattle.product.proofs.read.columns_lawful.Goals as goal

pub returns-then-not-column_lawful : goal.returns-then-not-column_lawful
returns-then-not-column_lawful g c =
    let s = g.C.Code.codebook c.args.code.now in
    let long : length c.loop-j.line ≡ s.n = omega (arith, c.length_of.ensures) in (
      λ t. absurd t,
      λ h. c.if-not-column_lawful.ensures.1
          (subst (λ (n : ℕ). s.Word (column n c.args.n2 c.args.grid.now c.loop-j.j)) (sym long) (h c.loop-j.j c.loop-j-test.true)),
    )
