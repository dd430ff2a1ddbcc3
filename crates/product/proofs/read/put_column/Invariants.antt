use Rattle.std.proofs.Common.{◌≡◌, ℕ, ◌+◌, ◌*◌, ◌<◌, ◌≢◌, get_or}
use Rattle.product.proofs.read.put_column.Given as goal

abbrev pub invariant-loop-i : goal.invariant-loop-i
invariant-loop-i l =
    ((k : ℕ) → k < l.i → get_or l.grid (k * l.n2 + l.j) 0 ≡ get_or l.word k 0)
    × ((k m : ℕ) → m < l.n2 → m ≢ l.j → get_or l.grid (k * l.n2 + m) 0 ≡ get_or l.initial.grid (k * l.n2 + m) 0)
