use Rattle.std.proofs.Common.{◌≡◌, ◌+◌, ◌^◌, get_or}
use Rattle.table.specs.Tables.{Tabled, number}
use Rattle.table.specs.Rows.{generator_of}
use Rattle.table.proofs.rows.Rows.advance.Given as goal

abbrev pub invariant-loop-i : goal.invariant-loop-i
invariant-loop-i g l = record {
  tabled : Tabled (generator_of l.self) l.word;
  carried : number g.S.Alphabet.Q l.self.k (λ i. get_or l.word i 0) + g.S.Alphabet.Q ^ l.i ≡ number g.S.Alphabet.Q l.self.k (λ i. get_or l.initial.word i 0) + 1;
}
