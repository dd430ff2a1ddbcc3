use Rattle.std.proofs.Common.{◌≡◌, ℕ, ◌+◌, ◌*◌, ◌<◌, ◌≤◌, List, length, sym, ap, ◌∙◌, subst, arith}
use Rattle.algebra.specs.Grids.{row}
use Rattle.algebra.specs.Parts.{Symbols, Printed}
use Rattle.algebra.proofs.Places.{row_end, row-part, rows_more}
use Rattle.algebra.proofs.Lines.{row_symbols}
use Rattle.product.proofs.whole.Product.encode_rows.Goals as goal

pub encode_line-requires-clause-symbols : goal.encode_line-requires-clause-symbols
encode_line-requires-clause-symbols g c =
    let same = g.met.A.Code.symbols c.args.self.now.columns ∙ sym (g.met.B.Code.symbols c.args.self.now.rows) in
    let la = g.A.Code.layout c.args.self.now.columns in
    let lb = g.B.Code.layout c.args.self.now.rows in
    let k2 : ℕ = c.message_length_of-k2.result in
    let l : ℕ = c.loop-l.l in
    let m : List ℕ = c.args.message.now in
    let inside : l * k2 + k2 ≤ length m =
    omega (arith, row_end k2 l la.k (omega arith), c.requires.long, ap (λ (x : ℕ). la.k * x) c.message_length_of-k2.ensures.0) in
    row_symbols _ k2 l m _ inside (row-part k2 l m inside) (subst (λ (q : ℕ). Symbols q m) same c.requires.symbols)

pub loop-l-preserved : goal.loop-l-preserved
loop-l-preserved g c =
    let a = g.A.Code.codebook c.args.self.now.columns in
    let b = g.B.Code.codebook c.args.self.now.rows in
    let la = g.A.Code.layout c.args.self.now.columns in
    let lb = g.B.Code.layout c.args.self.now.rows in
    let ll = g.met.A.Code.linear c.args.self.now.columns in
    let l : ℕ = c.loop-l.l in
    let n : ℕ = c.length_of-n2.result in
    let k2 : ℕ = c.message_length_of-k2.result in
    let m : List ℕ = c.args.message.now in
    let size : length c.loop-l.grid ≡ a.n * n = c.loop-l.auto.grid ∙ c.requires.fits.0 ∙ ap (λ (x : ℕ). a.n * x) (sym c.length_of-n2.ensures) in
    let inside : l * k2 + k2 ≤ length m =
    omega (arith, row_end k2 l la.k (omega arith), c.requires.long, ap (λ (x : ℕ). la.k * x) c.message_length_of-k2.ensures.0) in
    let last : l < la.k = omega arith in
    rows_more (λ k v. Printed b lb (row k2 m k) v) la.place n a.n l c.place_in.result _ c.loop-l.grid c.encode_line.new.line
    c.place_in.ensures.0 (omega arith) c.encode_line.auto.line size
    (λ k h. ll.inside k (omega (arith, last)))
    (λ k h q. let same : k ≡ l = ll.distinct k l (omega (arith, last)) last q in omega (arith, same, h))
    c.loop-l.invariant
    (subst (λ (u : List ℕ). Printed b lb u c.encode_line.new.line) (row-part k2 l m inside) c.encode_line.ensures)
