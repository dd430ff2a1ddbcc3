use Rattle.lines.proofs.Cutting.{cut_at}
use Rattle.lines.proofs.cuts.split_field.Goals as goal

pub returns : goal.returns
returns c = cut_at c.args.line.now c.find_byte-end.result c.get.result c.find_byte-end.ensures.first c.get.ensures.lookup
