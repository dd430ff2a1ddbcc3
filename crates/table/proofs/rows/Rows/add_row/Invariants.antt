use Rattle.std.proofs.Common.{◌≡◌, ℕ, ◌%◌, ◌<◌, ◌≤◌, get_or}
use Rattle.table.specs.Tables.{coefficient}
use Rattle.table.specs.Rows.{generator_of}
use Rattle.table.proofs.rows.Rows.add_row.Given as goal

abbrev pub invariant-loop-j : goal.invariant-loop-j
invariant-loop-j g l = record {
  done : (j : ℕ) → j < l.j → get_or l.checks j 0 ≡ g.S.Alphabet.plus (get_or l.initial.checks j 0 % g.S.Alphabet.Q) (g.S.Alphabet.times (l.change % g.S.Alphabet.Q) (coefficient (generator_of l.self) l.i j) % g.S.Alphabet.Q);
  later : (j : ℕ) → l.j ≤ j → get_or l.checks j 0 ≡ get_or l.initial.checks j 0;
}
