use Rattle.lines.proofs.Numerals.{number_is}
use Rattle.lines.proofs.numbers.number_at.Goals as goal

pub returns : goal.returns
returns c = rw (c.ok_or.ensures.value, c.at.ensures) (number_is c.args.field.now c.args.at c.read_number.result c.read_number.ensures)
