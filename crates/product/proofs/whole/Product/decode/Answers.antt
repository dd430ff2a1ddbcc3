use Rattle.std.proofs.Common.{sym, ◌∙◌}
use Rattle.algebra.proofs.Wholes.{weighed, row_lost, symbols, candidate}
use Rattle.product.proofs.whole.Product.decode.Goals as goal

pub decode_rows-requires-clause-weighed : goal.decode_rows-requires-clause-weighed
decode_rows-requires-clause-weighed g c =
    weighed (g.A.Code.codebook c.args.self.now.columns) (g.B.Code.codebook c.args.self.now.rows) (g.met.A.Code.apart c.args.self.now.columns)
    c.requires.columns_ready.symbols (g.met.A.Code.symbols c.args.self.now.columns ∙ sym (g.met.B.Code.symbols c.args.self.now.rows)) c.args.received.now c.correct_columns.new.grid c.correct_columns.new.weights c.requires.fits.0
    c.requires.fits.3 c.length_of-n1.ensures c.requires.distance.0 c.correct_columns.ensures

pub returns-else-decode_rows : goal.returns-else-decode_rows
returns-else-decode_rows g c =
    rw c.if-decode_rows.false
    (row_lost (g.A.Code.codebook c.args.self.now.columns) (g.B.Code.codebook c.args.self.now.rows) (g.met.A.Code.apart c.args.self.now.columns)
    c.requires.columns_ready.symbols (g.met.A.Code.symbols c.args.self.now.columns ∙ sym (g.met.B.Code.symbols c.args.self.now.rows)) c.args.received.now c.correct_columns.new.grid c.correct_columns.new.weights c.requires.fits.0
    c.requires.fits.3 c.length_of-n1.ensures c.requires.distance.0 c.correct_columns.ensures c.decode_rows.new.grid c.if-decode_rows.ensures)

pub columns_lawful-requires-clause-symbols : goal.columns_lawful-requires-clause-symbols
columns_lawful-requires-clause-symbols g c =
    let long = c.decode_rows.auto.grid ∙ c.correct_columns.auto.grid ∙ c.requires.fits.1 ∙ c.requires.fits.0 in
    symbols (g.A.Code.codebook c.args.self.now.columns) (g.B.Code.codebook c.args.self.now.rows) (g.met.A.Code.apart c.args.self.now.columns)
    c.requires.columns_ready.symbols (g.met.A.Code.symbols c.args.self.now.columns ∙ sym (g.met.B.Code.symbols c.args.self.now.rows)) c.args.received.now c.correct_columns.new.grid c.correct_columns.new.weights c.requires.fits.0
    c.requires.fits.3 c.length_of-n1.ensures c.requires.distance.0 c.correct_columns.ensures
    (g.met.B.Code.apart c.args.self.now.rows) c.decode_rows.new.grid long c.if-decode_rows.ensures

pub returns-then-decode_rows : goal.returns-then-decode_rows
returns-then-decode_rows g c =
    let long = c.decode_rows.auto.grid ∙ c.correct_columns.auto.grid ∙ c.requires.fits.1 ∙ c.requires.fits.0 in
    candidate (g.A.Code.codebook c.args.self.now.columns) (g.B.Code.codebook c.args.self.now.rows) (g.met.A.Code.apart c.args.self.now.columns)
    c.requires.columns_ready.symbols (g.met.A.Code.symbols c.args.self.now.columns ∙ sym (g.met.B.Code.symbols c.args.self.now.rows)) c.args.received.now c.correct_columns.new.grid c.correct_columns.new.weights c.requires.fits.0
    c.requires.fits.3 c.length_of-n1.ensures c.requires.distance.0 c.correct_columns.ensures
    (g.met.B.Code.apart c.args.self.now.rows) c.decode_rows.new.grid long c.if-decode_rows.ensures
    c.length_of-n2.result c.columns_lawful.result c.length_of-n2.ensures c.columns_lawful.ensures
