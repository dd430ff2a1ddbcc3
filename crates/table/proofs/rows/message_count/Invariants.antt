use Rattle.std.proofs.Common.{◌≡◌, ◌^◌, ◌≤◌}
use Rattle.table.proofs.rows.message_count.Given as goal

abbrev pub invariant-loop : goal.invariant-loop
invariant-loop g l = (l.count ≡ g.S.Alphabet.Q ^ l.counter) × (l.count ≤ 65536)
