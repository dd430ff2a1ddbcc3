use Rattle.std.proofs.Common.{◌≡◌, ◌++◌, take, string_bytes}
use Rattle.std.specs.List.{flat_map}
use Rattle.job.specs.Answers.{tabbed}
use Rattle.job.proofs.answers.print_symbols.Given as goal

abbrev pub invariant-loop-symbol : goal.invariant-loop-symbol
invariant-loop-symbol l = string_bytes l.out ≡ string_bytes l.initial.out ++ flat_map tabbed (take l.symbol-index l.message)
