use Rattle.lines.proofs.Cutting.{more_follow}
use Rattle.lines.proofs.cuts.check_end.Goals as goal

pub returns-in-Some : goal.returns-in-Some
returns-in-Some c = rw (c.at.ensures, c.in-Some.is) (more_follow tt c.args.at c.in-Some.field-0.now)
