use Rattle.algebra.proofs.Lines.{encode_passes}
use Rattle.product.proofs.print.encode_line.Goals as goal

pub returns : goal.returns
returns g c = encode_passes _ _ _ _ _ _ _ _ c.requires.ready c.requires.long c.requires.symbols c.encode.ensures
