use Rattle.std.proofs.Common.{sym, subst, arith}
use Rattle.table.specs.Tables.{Least}
use Rattle.table.specs.Rows.{generator_of}
use Rattle.table.specs.Laws.{least_is, tables_apart}
use Rattle.table.proofs.rows.Rows.distance.Goals as goal

pub returns-clause-lightest : goal.returns-clause-lightest
returns-clause-lightest g c =
    let s = generator_of c.args.self.now in
    subst (Least s) (sym c.survey.ensures.distance) (least_is s g.met.S.Alphabet.ring c.args.self.now.some.0)

pub returns-clause-short : goal.returns-clause-short
returns-clause-short g c =
    let short = (tables_apart (generator_of c.args.self.now) g.met.S.Alphabet.ring c.args.self.now.some.0).short in
    omega (arith, short, c.survey.ensures.distance)
