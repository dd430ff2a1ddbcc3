-- What the maker of a table code refuses, and what it makes. Assumes nothing.
use Rattle.std.specs.Prelude.{ℕ, ◌*◌, cond, List, length, Err, ◌==◌}
use Rattle.code.specs.declared.cells.Content.TheVariants.{Word}
use Rattle.code.specs.declared.refusals.Reason.TheVariants.{Unset, Misfit}
use Rattle.code.specs.Cells.{good}
use Rattle.code.specs.Refusals.{Verdict, refusal, clean}
use Rattle.table.specs.Tables.{tabulable}

-- numbers outside their limits, then another count of coefficients, then the first that is no symbol
abbrev pub fillable : (q k m : ℕ) → List ℕ → Verdict
fillable q k m cs =
    cond (tabulable q k m)
    (cond (length cs == k * m) (clean (good Word q) cs) (Err (refusal Misfit 0)))
    (Err (refusal Unset 0))
