use Rattle.std.proofs.Common.{◌*◌, List, ℕ, ◌++◌, refl, ap₂}
use Rattle.std.proofs.lemmas.List.{drop-replicate}
use Rattle.table.proofs.maker.Table.fill.Goals as goal

pub returns-clause-table : goal.returns-clause-table
returns-clause-table g c =
    (refl, refl, ap₂ (λ (x : List ℕ) (y : List ℕ). x ++ y) c.copy_from_slice.ensures.after (drop-replicate (c.args.k * c.args.m) 128 0))
