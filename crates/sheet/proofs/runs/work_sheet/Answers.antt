use Rattle.std.proofs.Common.{rules}
use Rattle.sheet.proofs.Working.{from_opening}
use Rattle.sheet.proofs.Uniqueness.{one_row_stands}
use Rattle.sheet.proofs.runs.work_sheet.Goals as goal

pub returns-in_err-check_open-clause-pinned : goal.returns-in_err-check_open-clause-pinned
returns-in_err-check_open-clause-pinned g c = one_row_stands

pub returns-in_err-check_outcomes-clause-pinned : goal.returns-in_err-check_outcomes-clause-pinned
returns-in_err-check_outcomes-clause-pinned g c = one_row_stands

pub returns-clause-pinned : goal.returns-clause-pinned
returns-clause-pinned g c = one_row_stands

pub returns-clause-worked : goal.returns-clause-worked
returns-clause-worked g c =
    let opened = c.open-sheet.ensures.lender in
    let kept = c.run.ensures.same in
    from_opening g.C.Code.codebook (g.O.Code.codebook c.args.opened_for.now) c.open-sheet.result c.run.new.self _ _
    (search rules) c.open-sheet.ensures.is (search rules) _ _ _ _ _ _ _ c.run.result (search rules) c.run.ensures.ran
