use Rattle.std.proofs.Common.{append-nil, refl, arith, rules}
use Rattle.std.proofs.lemmas.List.{take_all}
use Rattle.sheet.proofs.Working.{same_on, one_step_more}
use Rattle.sheet.proofs.marks.Sheet.run.Goals as goal

pub loop-i-init : goal.loop-i-init
loop-i-init g c = record { same = search rules; ran = (refl, λ h m. (rw (append-nil h) m, (refl, refl, refl))) }

pub loop-i-preserved : goal.loop-i-preserved
loop-i-preserved g c =
    let i = c.loop-i.invariant in
    let becomes = c.call.ensures.becomes in
    record {
      same = same_on _ _ _ i.same becomes.same;
      ran =
          one_step_more g.C.Code.codebook c.args.self.now c.loop-i.self c.call.new.self i.same _ _ c.index-steps-i.result c.loop-i-test.true c.index-steps-i.is
          c.args.outcomes.now _ (omega (arith, c.in_ok-check_outcomes.ensures.passed)) _ _ _ _ _ _ _ i.ran becomes c.call.ensures.goes;
    }

pub returns : goal.returns
returns g c =
    let all-steps = take_all c.loop-i.i c.args.steps.now c.loop-i-test.false in
    let all_Noted = take_all c.loop-i.i c.loop-i.outcomes (omega (arith, c.in_ok-check_outcomes.ensures.passed, c.loop-i-test.false)) in
    record {
      is = search rules;
      ran = rw (all-steps, all_Noted) at c.loop-i.invariant.ran;
      same = c.loop-i.invariant.same;
    }
