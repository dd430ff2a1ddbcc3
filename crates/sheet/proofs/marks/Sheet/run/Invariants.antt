use Rattle.std.proofs.Common.{take, Ok}
use Rattle.sheet.specs.Runs.{runs}
use Rattle.sheet.specs.Sheets.{symbols, places, all_cells, Same}
use Rattle.sheet.proofs.marks.Sheet.run.Given as goal

abbrev pub invariant-loop-i : goal.invariant-loop-i
invariant-loop-i g l =
    let before = l.initial.self in
    record {
      same : Same before l.self;
      ran : runs (Ok tt) g.C.Code.codebook (symbols before) (places before) (take l.i l.steps) (all_cells before) (all_cells l.self) l.initial.outcomes (take l.i l.outcomes) l.initial.answer l.answer l.initial.work l.work;
    }
