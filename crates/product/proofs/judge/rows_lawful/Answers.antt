use Rattle.std.proofs.Common.{ℕ, ◌*◌, List, length, drop, subst, sym, ap, ◌∙◌, arith, below_more}
use Rattle.std.proofs.lemmas.List.{length_push}
use Rattle.algebra.specs.Grids.{row}
use Rattle.algebra.proofs.Lines.{ready_at, row_symbols}
use Rattle.algebra.proofs.Places.{passed_next, passed_all}
use Rattle.product.proofs.judge.rows_lawful.Goals as goal

pub line_lawful-requires : goal.line_lawful-requires
line_lawful-requires g c =
    let steps = c.in-Some.ensures.steps in
    let rows = c.loop-line.invariant.2 in
    let next = passed_next c.loop-line.invariant.0 rows steps.1.0 steps.1.1 in
    record {
      ready = ready_at _ _ _ _ _ (steps.1.1 ∙ rows.size_is) c.loop-line.auto.rest c.requires.ready;
      symbols = row_symbols _ _ _ _ _ next.inside next.line_is c.requires.symbols;
    }

pub returns-then-not-line_lawful : goal.returns-then-not-line_lawful
returns-then-not-line_lawful g c =
    let s = g.C.Code.codebook c.args.code.now in
    let steps = c.in-Some.ensures.steps in
    let next = passed_next c.loop-line.invariant.0 c.loop-line.invariant.2 steps.1.0 steps.1.1 in
    (λ t. absurd t, λ h. c.if-not-line_lawful.ensures.1 (subst s.Word (sym next.line_is) (h (length c.loop-line.yielded) next.inside)))

pub loop-line-preserved : goal.loop-line-preserved
loop-line-preserved g c =
    let s = g.C.Code.codebook c.args.code.now in
    let n : ℕ = c.args.n2 in
    let x : List ℕ = c.args.grid.now in
    let steps = c.in-Some.ensures.steps in
    let rows = c.loop-line.invariant.2 in
    let next = passed_next c.loop-line.invariant.0 rows steps.1.0 steps.1.1 in
    let one_more = length_push c.loop-line.yielded c.in-Some.line in (
      omega (arith, steps.0, c.loop-line.invariant.0),
      tt,
      record { size_is = steps.0 ∙ rows.size_is; rest_is = next.rest_is ∙ ap (λ (i : ℕ). drop (i * n) x) (sym one_more) },
      λ k l. below_more (λ i. s.Word (row n x i)) _ c.loop-line.invariant.3 (subst s.Word next.line_is (c.if-not-line_lawful.ensures.0 tt)) k (omega (arith, one_more, l)),
    )

pub returns : goal.returns
returns g c = (λ t i l. c.loop-line.invariant.3 i (passed_all c.loop-line.invariant.2 c.in-None.ensures.steps.1.0 i l), λ h. tt)
