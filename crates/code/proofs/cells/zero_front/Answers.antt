use Rattle.std.proofs.Common.{ℕ, min, List, ◌++◌, length, drop, replicate, sym, ◌∙◌, rules}
use Rattle.code.proofs.Rows.{zeroed_min}
use Rattle.code.proofs.cells.zero_front.Goals as goal

pub returns : goal.returns
returns c =
    let w : List ℕ = c.args.cells.now in
    let m : ℕ = min c.args.count (length w) in
    ◌∙◌ {b = replicate m 0 ++ drop m w} (search rules) (sym (zeroed_min c.args.count w))
