use Rattle.std.proofs.Common.{◌≡◌, ℕ, ◌<◌, get_or}
use Rattle.table.specs.Tables.{check}
use Rattle.table.specs.Rows.{generator_of}
use Rattle.table.proofs.rows.Rows.write_checks.Given as goal

abbrev pub invariant-loop-j : goal.invariant-loop-j
invariant-loop-j g l = (j : ℕ) → j < l.j → get_or l.checks j 0 ≡ check (generator_of l.self) (λ i. get_or l.message i 0) j
