use Rattle.algebra.proofs.Tries.{read_reaches}
use Rattle.product.proofs.read.read_line.Goals as goal

pub returns : goal.returns
returns g c = read_reaches c.requires.ready c.requires.tray c.requires.taken c.read.ensures c.ok.ensures.value
