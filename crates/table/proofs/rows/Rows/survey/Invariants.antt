use Rattle.table.specs.Rows.{generator_of}
use Rattle.table.proofs.Surveying.{Sofar}
use Rattle.table.proofs.rows.Rows.survey.Given as goal

abbrev pub invariant-loop : goal.invariant-loop
invariant-loop g l =
    Sofar (generator_of l.self) l.received l.word l.nearest l.counter l.distance l.counts
