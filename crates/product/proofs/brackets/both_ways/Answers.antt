use Rattle.std.proofs.Common.{subst}
use Rattle.algebra.specs.Grids.{grids}
use Rattle.algebra.specs.Agreement.{Same}
use Rattle.algebra.proofs.Agreement.{agree}
use Rattle.algebra.proofs.Products.{grids_assoc}
use Rattle.product.proofs.brackets.both_ways.Goals as goal

pub returns : goal.returns
returns g c =
    let l = c.args.left.now in
    let a = g.A.Code.codebook l.columns.columns in
    let b = g.B.Code.codebook l.columns.rows in
    let d = g.C.Code.codebook l.rows in
    record {
      left = c.read-one.ensures;
      right = c.read-two.ensures;
      same = λ ea eb ec ol or.
          agree _ _ _ _ _ _ _ _ _ _ _ _ _
          (subst (λ z. Same (grids (grids a b) d) (grids (g.A.Code.codebook c.args.right.now.columns) (grids (g.B.Code.codebook c.args.right.now.rows.columns) (g.C.Code.codebook z)))) ec
          (subst (λ y. Same (grids (grids a b) d) (grids (g.A.Code.codebook c.args.right.now.columns) (grids (g.B.Code.codebook y) d))) eb
          (subst (λ x. Same (grids (grids a b) d) (grids (g.A.Code.codebook x) (grids b d))) ea (grids_assoc a b d))))
          ol or c.read-one.ensures c.read-two.ensures;
    }
