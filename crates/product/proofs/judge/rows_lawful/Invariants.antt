use Rattle.std.proofs.Common.{ℕ, ◌<◌, length}
use Rattle.std.specs.Slice.Iter.{chunks_exact_rest, chunks_exact_size}
use Rattle.algebra.specs.Grids.{row}
use Rattle.algebra.proofs.Places.{Passed}
use Rattle.product.proofs.judge.rows_lawful.Given as goal

abbrev pub invariant-loop-line : goal.invariant-loop-line
invariant-loop-line g l =
    (goal.iterator-loop-line g).can_next l.line-iterator × (goal.iterator-loop-line g).is_finite l.line-iterator
    × Passed l.n2 (chunks_exact_size l.line-iterator) (length l.yielded) l.grid (chunks_exact_rest l.line-iterator)
    × ((i : ℕ) → i < length l.yielded → (g.C.Code.codebook l.code).Word (row l.n2 l.grid i))
