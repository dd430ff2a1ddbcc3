use Rattle.std.proofs.Common.{◌≡◌, ℕ, ◌<◌, List, length, sym, refl, ◌∙◌, arith}
use Rattle.code.specs.Codes.{taken}
use Rattle.algebra.specs.Grids.{column}
use Rattle.algebra.specs.Parts.{Symbols, Printed}
use Rattle.algebra.proofs.Encoded.{printed_symbols, printed_grid}
use Rattle.algebra.proofs.Wholes.{moved}
use Rattle.algebra.proofs.Lines.{ready_columns, ready_rows}
use Rattle.product.proofs.whole.Product.encode_grid.Goals as goal

pub encode_rows-requires-clause-ready : goal.encode_rows-requires-clause-ready
encode_rows-requires-clause-ready g c =
    let few = (g.met.A.Code.linear c.args.self.now.columns).few in
    let same = g.met.A.Code.symbols c.args.self.now.columns ∙ sym (g.met.B.Code.symbols c.args.self.now.rows) in
    ready_rows (g.met.A.Code.apart c.args.self.now.columns) (g.met.B.Code.apart c.args.self.now.rows) c.requires.ready same _ _ refl (omega arith)

pub encode_columns-requires-clause-ready : goal.encode_columns-requires-clause-ready
encode_columns-requires-clause-ready g c =
    let few = (g.met.A.Code.linear c.args.self.now.columns).few in
    ready_columns (g.met.A.Code.apart c.args.self.now.columns) (g.met.B.Code.apart c.args.self.now.rows) c.requires.ready _ _ (omega arith) (omega arith)

pub encode_columns-requires-clause-symbols : goal.encode_columns-requires-clause-symbols
encode_columns-requires-clause-symbols g c =
    let a = g.A.Code.codebook c.args.self.now.columns in
    let la = g.A.Code.layout c.args.self.now.columns in
    let h : List ℕ = c.encode_rows.new.grid in
    let e1 : a.n ≡ length c.split_at_mut-word.result.0.now = omega arith in
    let e2 = sym c.length_of-n2.ensures in
    moved (λ n m d. (j : ℕ) → j < m → Symbols a.q (taken la (column n m h j))) e1 e2 e2
    (printed_symbols g.met.A.Symbols.Alphabet.ring
    (g.met.A.Code.symbols c.args.self.now.columns) (g.met.B.Code.symbols c.args.self.now.rows)
    (g.met.A.Code.apart c.args.self.now.columns) (g.met.B.Code.apart c.args.self.now.rows)
    (g.met.A.Code.linear c.args.self.now.columns) (g.met.B.Code.linear c.args.self.now.rows) c.args.message.now h c.encode_rows.ensures)

pub returns : goal.returns
returns g c =
    let a = g.A.Code.codebook c.args.self.now.columns in
    let la = g.A.Code.layout c.args.self.now.columns in
    let h : List ℕ = c.encode_rows.new.grid in
    let y : List ℕ = c.encode_columns.new.grid in
    let e1 : length c.split_at_mut-word.result.0.now ≡ a.n = omega arith in
    let e2 = c.length_of-n2.ensures in
    printed_grid g.met.A.Symbols.Alphabet.ring
    (g.met.A.Code.symbols c.args.self.now.columns) (g.met.B.Code.symbols c.args.self.now.rows)
    (g.met.A.Code.apart c.args.self.now.columns) (g.met.B.Code.apart c.args.self.now.rows)
    (g.met.A.Code.linear c.args.self.now.columns) (g.met.B.Code.linear c.args.self.now.rows) c.args.message.now h c.encode_rows.ensures y
    (c.encode_columns.auto.grid ∙ c.encode_rows.auto.grid ∙ sym c.requires.ready.long)
    (moved (λ n m d. (j : ℕ) → j < m → Printed a la (taken la (column n m h j)) (column n m y j)) e1 e2 e2 c.encode_columns.ensures)
