use Rattle.std.proofs.Common.{◌≡◌, ℕ, ◌<◌, ◌≢◌, List, length, sym, ◌∙◌, subst, arith, below_more}
use Rattle.code.specs.Codes.{taken}
use Rattle.algebra.specs.Grids.{column}
use Rattle.algebra.specs.Parts.{Symbols, Printed}
use Rattle.product.proofs.print.encode_columns.Goals as goal

pub encode_column-requires-clause-symbols : goal.encode_column-requires-clause-symbols
encode_column-requires-clause-symbols g c =
    let s = g.C.Code.codebook c.args.code.now in
    let l = g.C.Code.layout c.args.code.now in
    let j : ℕ = c.loop-j.j in
    let n : ℕ = length c.loop-j.word in
    let x : List ℕ = c.args.grid.now in
    subst (λ (y : List ℕ). Symbols s.q (taken l y)) (sym (c.loop-j.invariant.1 j (omega arith) c.loop-j-test.true))
    (subst (λ (m : ℕ). Symbols s.q (taken l (column m c.args.n2 x j))) (sym c.loop-j.auto.word) (c.requires.symbols j c.loop-j-test.true))

pub loop-j-preserved : goal.loop-j-preserved
loop-j-preserved g c =
    let s = g.C.Code.codebook c.args.code.now in
    let l = g.C.Code.layout c.args.code.now in
    let j : ℕ = c.loop-j.j in
    let m : ℕ = c.args.n2 in
    let n : ℕ = length c.loop-j.word in
    let e : length c.encode_column.new.word ≡ n = c.encode_column.auto.word in
    let x : List ℕ = c.args.grid.now in
    let y : List ℕ = c.loop-j.grid in
    let z : List ℕ = c.encode_column.new.grid in
    let P : ℕ → List ℕ → Type 0 = λ k v. Printed s l (taken l (column n m x k)) v in
    let others : (k : ℕ) → k < m → k ≢ j → column n m z k ≡ column n m y k = c.encode_column.ensures.others in
    rw e (
      below_more (λ k. P k (column n m z k)) j
          (λ k h. subst (λ (v : List ℕ). P k v) (sym (others k (omega (arith, c.loop-j-test.true)) (λ q. omega (arith, q, h)))) (c.loop-j.invariant.0 k h))
          (subst (λ (u : List ℕ). Printed s l (taken l u) (column n m z j)) (c.loop-j.invariant.1 j (omega arith) c.loop-j-test.true) c.encode_column.ensures.here),
      λ k h h'. others k h' (λ q. omega (arith, q, h)) ∙ c.loop-j.invariant.1 k (omega arith) h',
    )
