use Rattle.std.proofs.Common.{sym, ◌∙◌, ◌+◌, subst}
use Rattle.sum.specs.declared.scans.Scan.{Scan}
use Rattle.sum.specs.Scans.{Scanned, tally}
use Rattle.sum.proofs.Scanning.{scan_symbol, first_blank, second_blank}
use Rattle.sum.proofs.scans.scan_cells.Goals as goal
use Rattle.sum.proofs.scans.scan_cells.Goals.{then-cell, else-cell+else-is_some}

pub returns-then-is_some : goal.returns-then-is_some
returns-then-is_some g c =
    second_blank g.met.S.Alphabet.ring c.args.received.now c.requires c.loop-i.i c.loop-i.scan.total c.loop-i.scan.hole
    (sym c.is_some.ensures ∙ c.if-is_some.true) c.loop-i-test.true c.loop-i.invariant c.if-cell.false

pub loop-i-preserved : goal.loop-i-preserved
loop-i-preserved g c =
    let ring = g.met.S.Alphabet.ring in
    let Told : Scan → Type 0 = λ s. Scanned g.S.Alphabet.plus c.args.received.now (c.loop-i.i + 1) (tally s) in
    elim c.if-cell.branch [
      | then-cell w ↦ subst Told (sym w.scan-is)
          (scan_symbol ring c.args.received.now c.requires c.loop-i.i w.add.result (tally c.loop-i.scan) c.loop-i-test.true c.loop-i.invariant w.if-cell.true w.add.ensures)
      | else-cell+else-is_some w ↦ subst Told (sym w.scan-is)
          (first_blank ring c.args.received.now c.requires c.loop-i.i c.loop-i.scan.total c.loop-i.scan.hole (sym w.is_some.ensures ∙ w.if-is_some.false) c.loop-i-test.true c.loop-i.invariant w.if-cell.false)
    ]
