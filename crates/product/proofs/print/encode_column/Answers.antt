use Rattle.std.proofs.Common.{◌≡◌, ℕ, List, length, sym, ap, ◌∙◌, subst}
use Rattle.code.specs.Codes.{taken}
use Rattle.algebra.specs.Grids.{column}
use Rattle.algebra.specs.Parts.{Symbols, Printed}
use Rattle.product.proofs.print.encode_column.Goals as goal

pub encode_line-requires-clause-symbols : goal.encode_line-requires-clause-symbols
encode_line-requires-clause-symbols g c =
    let s = g.C.Code.codebook c.args.code.now in
    let l = g.C.Code.layout c.args.code.now in
    let message = c.take_places.ensures ∙ ap (λ (n : ℕ). taken l (column n c.args.n2 c.args.grid.now c.args.j)) c.requires.ready.long in
    subst (λ (x : List ℕ). Symbols s.q x) (sym message) c.requires.symbols

pub returns-clause-here : goal.returns-clause-here
returns-clause-here g c =
    let s = g.C.Code.codebook c.args.code.now in
    let l = g.C.Code.layout c.args.code.now in
    let n : ℕ = length c.args.word.now in
    let w : List ℕ = c.encode_line.new.line in
    let message = c.take_places.ensures ∙ ap (λ (n : ℕ). taken l (column n c.args.n2 c.args.grid.now c.args.j)) c.requires.ready.long in
    let put : column n c.args.n2 c.put_column.new.grid c.args.j ≡ w =
    ap (λ (n : ℕ). column n c.args.n2 c.put_column.new.grid c.args.j) (sym c.encode_line.auto.line) ∙ c.put_column.ensures.here in
    subst (λ (y : List ℕ). Printed s l (taken l (column n c.args.n2 c.args.grid.now c.args.j)) y) (sym put)
    (subst (λ (x : List ℕ). Printed s l x w) message c.encode_line.ensures)
