use Rattle.std.proofs.Common.{ℕ, ◌%◌, ◌<◌, ◌≢◌, length, ap, ap₂, ◌∙◌, arith, get_or-set_other, get_or-set_same, below_more}
use Rattle.table.proofs.rows.Rows.add_row.Goals as goal

pub loop-j-preserved : goal.loop-j-preserved
loop-j-preserved g c =
    let q : ℕ = g.S.Alphabet.Q in
    let n : ℕ = c.loop-j.j in
    let inv = c.loop-j.invariant in
    let inside : n < length c.loop-j.checks = omega (arith, c.loop-j.auto.checks) in
    let product = c.multiply.ensures ∙ ap (λ z. g.S.Alphabet.times (c.args.change % q) (z % q)) (c.row-row.ensures.row n (omega (arith, c.requires.sized))) in
    record {
      done = below_more _ _
          (λ j l. let ne : j ≢ n = omega arith in rw get_or-set_other (inv.done j l))
          (rw get_or-set_same (c.add.ensures ∙ ap₂ (λ y z. g.S.Alphabet.plus (y % q) (z % q)) (inv.later n (omega arith)) product));
      later = λ j l. let ne : j ≢ n = omega arith in rw get_or-set_other (inv.later j (omega arith));
    }
