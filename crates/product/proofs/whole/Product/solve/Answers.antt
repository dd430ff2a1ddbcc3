use Rattle.std.proofs.Common.{◌≡◌, ℕ, ◌*◌, ◌≤◌, List, sym, subst, arith}
use Rattle.algebra.specs.Grids.{grids}
use Rattle.code.specs.Codes.{Codebook, Apart}
use Rattle.algebra.specs.Parts.{Ready}
use Rattle.code.specs.Calls.{Within}
use Rattle.algebra.proofs.Places.{side1, side2}
use Rattle.algebra.proofs.Products.{product_apart}
use Rattle.algebra.proofs.Wholes.{near}
use Rattle.product.proofs.whole.Product.solve.Goals as goal

-- the factors of a product that can be read are small
rows_small : (a b : Codebook) (n k : ℕ) → Apart a → Ready (grids a b) n k → b.n ≤ 4096
rows_small a b n k p h = side2 a.n b.n 4096 (omega (arith, p.positive, p.short)) (omega (arith, h.long, h.short))

columns_small : (a b : Codebook) (n k : ℕ) → Apart b → Ready (grids a b) n k → a.n ≤ 4096
columns_small a b n k q h = side1 a.n b.n 4096 (omega (arith, q.positive, q.short)) (omega (arith, h.long, h.short))

pub length_of-requires : goal.length_of-requires
length_of-requires g c =
    rows_small (g.A.Code.codebook c.args.self.now.columns) (g.B.Code.codebook c.args.self.now.rows) _ _ (g.met.A.Code.apart c.args.self.now.columns) c.requires.ready

pub distance_of-d1-requires : goal.distance_of-d1-requires
distance_of-d1-requires g c =
    columns_small (g.A.Code.codebook c.args.self.now.columns) (g.B.Code.codebook c.args.self.now.rows) _ _ (g.met.B.Code.apart c.args.self.now.rows) c.requires.ready

pub decode-requires-clause-columns_ready : goal.decode-requires-clause-columns_ready
decode-requires-clause-columns_ready g c = record {
  short = columns_small (g.A.Code.codebook c.args.self.now.columns) (g.B.Code.codebook c.args.self.now.rows) _ _ (g.met.B.Code.apart c.args.self.now.rows) c.requires.ready;
  room = omega (arith, c.requires.ready.long, c.requires.ready.room);
  roomy = omega (arith, c.requires.ready.roomy);
  symbols = c.requires.ready.symbols;
}

pub decode-requires-clause-rows_ready : goal.decode-requires-clause-rows_ready
decode-requires-clause-rows_ready g c = record {
  short = rows_small (g.A.Code.codebook c.args.self.now.columns) (g.B.Code.codebook c.args.self.now.rows) _ _ (g.met.A.Code.apart c.args.self.now.columns) c.requires.ready;
  room = omega (arith, c.requires.ready.long, c.requires.ready.room);
  roomy = omega (arith, c.requires.ready.roomy);
  symbols = omega (arith, g.met.A.Code.symbols c.args.self.now.columns, g.met.B.Code.symbols c.args.self.now.rows, c.requires.ready.symbols);
}

pub distance_of-d2-requires : goal.distance_of-d2-requires
distance_of-d2-requires g c =
    rows_small (g.A.Code.codebook c.args.self.now.columns) (g.B.Code.codebook c.args.self.now.rows) _ _ (g.met.A.Code.apart c.args.self.now.columns) c.requires.ready

pub returns : goal.returns
returns g c =
    let a = g.A.Code.codebook c.args.self.now.columns in
    let b = g.B.Code.codebook c.args.self.now.rows in
    let limit : c.distance_of-d1.result * c.distance_of-d2.result ≡ a.d * b.d = cc in
    subst (λ (w : List ℕ). Within (grids a b) c.args.received.now w c.in_ok-counts.counts) (sym c.copy_from_slice.ensures.after)
    (near (grids a b) (product_apart a b (g.met.A.Code.apart c.args.self.now.columns) (g.met.B.Code.apart c.args.self.now.rows)) c.args.received.now c.decode.new.grid c.in_ok-counts.counts
    (sym c.requires.ready.long) c.if-not-decode.ensures c.in_ok-counts.ensures.is.1 c.in_ok-counts.ensures.is.2 (omega (arith, c.if-cost-d1.false, c.cost.ensures, c.in_ok-counts.ensures.few, c.requires.ready.long, c.requires.ready.short, limit)))
