use Rattle.std.proofs.Common.{ℕ, ◌≤◌, List, Ok, Err, sym, refl, subst, arith}
use Rattle.code.specs.Cells.{cost}
use Rattle.code.specs.Refusals.{Verdict}
use Rattle.code.specs.Calls.{Within, reads}
use Rattle.code.specs.declared.cells.Content.TheVariants.{Received}
use Rattle.code.proofs.Checks.{at_size}
use Rattle.code.proofs.Costs.{within}
use Rattle.table.specs.Tables.{Generator, tables, least}
use Rattle.table.specs.Rows.{generator_of}
use Rattle.table.specs.Laws.{tables_apart}
use Rattle.table.proofs.rows.Rows.read_nearest.Goals as goal

pub returns-then-cost-survey : goal.returns-then-cost-survey
returns-then-cost-survey g c =
    let s : Generator = generator_of c.args.self.now in
    let r : List ℕ = c.args.received.now in
    let a : List ℕ = c.args.answer.now in
    let y = c.survey-survey.ensures in
    let far : least s ≤ cost r c.survey-survey.new.nearest = omega (arith, y.distance, y.nearest.wrong, y.nearest.blank, c.cost.ensures, c.if-cost-survey.true) in
    subst (λ (v : Verdict). reads v (tables s) r a a (Err c.at.result))
    (at_size Received s.q c.Q.result r c.Q.ensures c.in_ok-check_cells.ensures.is)
    (c.at.ensures, λ v h. omega (arith, far, y.nearest.cheapest v h), refl)

pub returns : goal.returns
returns g c =
    let s : Generator = generator_of c.args.self.now in
    let r : List ℕ = c.args.received.now in
    let y = c.survey-survey.ensures in
    let counts = c.survey-survey.result.counts in
    let near : Within (tables s) r c.survey-survey.new.nearest counts =
    within (tables s) (tables_apart s g.met.S.Alphabet.ring c.args.self.now.some.0) r c.requires.received c.survey-survey.new.nearest counts
    y.nearest.tabled y.nearest.wrong y.nearest.blank (omega (arith, y.distance, c.cost.ensures, c.if-cost-survey.false)) in
    subst (λ (v : Verdict). reads v (tables s) r c.args.answer.now c.copy_from_slice.new.self (Ok counts))
    (at_size Received s.q c.Q.result r c.Q.ensures c.in_ok-check_cells.ensures.is)
    (subst (λ (a : List ℕ). Within (tables s) r a counts) (sym c.copy_from_slice.ensures.after) near)
