use Rattle.std.proofs.Common.{ℕ, ◌<◌, get_or, arith}
use Rattle.table.specs.Numbers.{number_next, number_wrap}
use Rattle.table.proofs.rows.Rows.advance.Goals as goal

pub returns-then-next-Q-clause-next : goal.returns-then-next-Q-clause-next
returns-then-next-Q-clause-next g c =
    let x : ℕ → ℕ = λ j. get_or c.loop-i.word j 0 in
    let y : ℕ → ℕ = λ j. get_or c.change_symbol.new.word j 0 in
    λ _. omega (arith, number_next g.S.Alphabet.Q c.args.self.now.k x y c.loop-i.i c.loop-i-test.true c.change_symbol.ensures.others c.change_symbol.ensures.here)

pub loop-i-preserved : goal.loop-i-preserved
loop-i-preserved g c =
    let q : ℕ = g.S.Alphabet.Q in
    let x : ℕ → ℕ = λ j. get_or c.loop-i.word j 0 in
    let y : ℕ → ℕ = λ j. get_or c.change_symbol-in-loop-i.new.word j 0 in
    let low : x c.loop-i.i < q = c.loop-i.invariant.tabled.symbols c.loop-i.i (omega arith) in
    record {
      tabled = c.change_symbol-in-loop-i.ensures.tabled;
      carried = omega (arith, number_wrap q c.args.self.now.k x y c.loop-i.i c.loop-i-test.true c.change_symbol-in-loop-i.ensures.others c.change_symbol-in-loop-i.ensures.here (omega arith));
    }
