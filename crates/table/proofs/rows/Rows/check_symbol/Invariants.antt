use Rattle.std.proofs.Common.{length}
use Rattle.table.specs.Rows.{generator_of}
use Rattle.table.proofs.Walks.{Walking}
use Rattle.table.proofs.rows.Rows.check_symbol.Given as goal

abbrev pub invariant-loop-symbol : goal.invariant-loop-symbol
invariant-loop-symbol g l =
    Walking (generator_of l.self) l.message l.j l.symbol-iterator.a.rest.now l.symbol-iterator.b.rest.now l.symbol-iterator.b.size (length l.yielded) l.sum
