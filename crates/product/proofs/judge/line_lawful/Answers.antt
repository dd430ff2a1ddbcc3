use Rattle.algebra.proofs.Lines.{judge_says}
use Rattle.product.proofs.judge.line_lawful.Goals as goal

pub returns : goal.returns
returns g c = judge_says c.requires.ready c.requires.symbols c.lawful.ensures c.unwrap_or.ensures
