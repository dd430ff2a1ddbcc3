use Rattle.std.proofs.Common.{◌≡◌, ℕ, ◌+◌, ◌*◌, ◌<◌, get_or}
use Rattle.product.proofs.print.take_places.Given as goal

abbrev pub invariant-loop-l : goal.invariant-loop-l
invariant-loop-l g l = (k : ℕ) → k < l.l → get_or l.line k 0 ≡ get_or l.grid ((g.C.Code.layout l.code).place k * l.n2 + l.j) 0
