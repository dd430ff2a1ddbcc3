use Rattle.algebra.proofs.Lines.{column_symbols}
use Rattle.product.proofs.read.column_lawful.Goals as goal

pub line_lawful-requires-clause-symbols : goal.line_lawful-requires-clause-symbols
line_lawful-requires-clause-symbols g c =
    column_symbols (g.C.Code.codebook c.args.code.now).q _ c.args.n2 c.args.grid.now c.take_column.new.line c.args.j c.requires.within c.requires.fits.0 c.take_column.ensures c.requires.symbols
