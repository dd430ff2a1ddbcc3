use Rattle.std.proofs.Common.{◌≡◌, ℕ, ◌+◌, ◌-◌, ◌*◌, true, List, length, get_or, take, drop, sym, ap, ◌∙◌, subst, arith}
use Rattle.algebra.specs.Grids.{row}
use Rattle.code.proofs.Rows.{length-listed}
use Rattle.algebra.specs.Parts.{Weighed, Light, Heavy, RowsDecoded}
use Rattle.algebra.proofs.Places.{row_end}
use Rattle.algebra.proofs.Written.{row_lent, rows_written, rows_unwritten}
use Rattle.algebra.proofs.Tries.{ready_of}
use Rattle.product.proofs.read.RowDecoder.decode_rows.Goals as goal

-- the length of a grid that is counted by the code's length
counted : (n m n1 : ℕ) (w w0 : List ℕ) → n ≡ m → length w ≡ length w0 → length w0 ≡ n1 * m → length w ≡ n1 * n
counted n m n1 w w0 e p q = p ∙ q ∙ ap (λ (k : ℕ). n1 * k) (sym e)

pub offset_bounds-grid-from : goal.offset_bounds-grid-from
offset_bounds-grid-from g c =
    let size = counted c.length_of-n2.result _ c.args.n1 c.loop-i.grid c.args.grid.now c.length_of-n2.ensures c.loop-i.auto.grid c.requires.fits.0 in
    omega (arith, row_end c.length_of-n2.result c.loop-i.i c.args.n1 c.loop-i-test.true, size)

pub slice_bounds-decode_row-end : goal.slice_bounds-decode_row-end
slice_bounds-decode_row-end g c =
    let size = counted c.length_of-n2.result _ c.args.n1 c.loop-i.grid c.args.grid.now c.length_of-n2.ensures c.loop-i.auto.grid c.requires.fits.0 in
    omega (arith, row_end c.length_of-n2.result c.loop-i.i c.args.n1 c.loop-i-test.true, size)

pub decode_row-requires : goal.decode_row-requires
decode_row-requires g c =
    let s = g.C.Code.codebook c.args.self.now.code.now in
    let i : ℕ = c.loop-i.i in
    let n : ℕ = c.length_of-n2.result in
    let e : n ≡ s.n = c.length_of-n2.ensures in
    let x : List ℕ = c.loop-i.grid in
    let size = counted n s.n c.args.n1 x c.args.grid.now e c.loop-i.auto.grid c.requires.fits.0 in
    let part : List ℕ = take (i * n + n - i * n) (drop (i * n) x) in
    let same : part ≡ row n c.args.grid.now i = row_lent n i c.args.n1 x size c.loop-i-test.true ∙ c.loop-i.invariant.1 i (omega arith) c.loop-i-test.true in
    let long : length part ≡ n = ap length same ∙ length-listed n (λ j. get_or c.args.grid.now (i * n + j) 0) in
    record {
      row = record {
        ready = ready_of s (length part) (length c.loop-i.rest) (length c.args.lines.now) (long ∙ e) (omega arith) c.requires.ready;
        weighed = subst (λ (y : List ℕ). Weighed s c.args.self.now.weights.most c.args.self.now.weights.each.now y) (ap (λ (k : ℕ). row k c.args.grid.now i) (sym e) ∙ sym same) (c.requires.weighed i c.loop-i-test.true);
        weights_is = omega (arith, long, e, c.requires.fits);
        line_is = omega (arith, long);
        word_is = omega (arith, long);
      };
    }

pub returns-then-not-decode_row : goal.returns-then-not-decode_row
returns-then-not-decode_row g c =
    let s = g.C.Code.codebook c.args.self.now.code.now in
    let i : ℕ = c.loop-i.i in
    let n : ℕ = c.length_of-n2.result in
    let e : n ≡ s.n = c.length_of-n2.ensures in
    let x : List ℕ = c.loop-i.grid in
    let size = counted n s.n c.args.n1 x c.args.grid.now e c.loop-i.auto.grid c.requires.fits.0 in
    let same : take (i * n + n - i * n) (drop (i * n) x) ≡ row s.n c.args.grid.now i =
    row_lent n i c.args.n1 x size c.loop-i-test.true ∙ c.loop-i.invariant.1 i (omega arith) c.loop-i-test.true ∙ ap (λ (k : ℕ). row k c.args.grid.now i) e in
    (i, c.loop-i-test.true, subst (λ (y : List ℕ). Heavy s c.args.self.now.weights.most c.args.self.now.weights.each.now y) same c.if-not-decode_row.ensures)

pub loop-i-preserved : goal.loop-i-preserved
loop-i-preserved g c =
    let s = g.C.Code.codebook c.args.self.now.code.now in
    let i : ℕ = c.loop-i.i in
    let n : ℕ = c.length_of-n2.result in
    let e : n ≡ s.n = c.length_of-n2.ensures in
    let d : ℕ = c.args.self.now.weights.most in
    let ws : List ℕ = c.args.self.now.weights.each.now in
    let x0 : List ℕ = c.args.grid.now in
    let x : List ℕ = c.loop-i.grid in
    let y : List ℕ = c.decode_row.new.cells in
    let m : ℕ = i * n + n - i * n in
    let z : m ≡ n = omega arith in
    let size = counted n s.n c.args.n1 x x0 e c.loop-i.auto.grid c.requires.fits.0 in
    let same : take m (drop (i * n) x) ≡ row n x0 i = row_lent n i c.args.n1 x size c.loop-i-test.true ∙ c.loop-i.invariant.1 i (omega arith) c.loop-i-test.true in
    let long : length (take m (drop (i * n) x)) ≡ n = ap length same ∙ length-listed n (λ j. get_or x0 (i * n + j) 0) in
    let ly : length y ≡ m = omega (arith, c.decode_row.auto.cells, long) in (
      rows_written (λ k w. Light s d ws (row n x0 k) w) n i c.args.n1 m x y size c.loop-i-test.true z ly c.loop-i.invariant.0
          (subst (λ (w : List ℕ). Light s d ws w y) same c.if-not-decode_row.ensures),
      rows_unwritten n i c.args.n1 m x x0 y size z ly c.loop-i.invariant.1,
    )

pub returns : goal.returns
returns g c =
    let s = g.C.Code.codebook c.args.self.now.code.now in
    subst (λ (n : ℕ). RowsDecoded s c.args.self.now.weights.most c.args.self.now.weights.each.now c.args.n1 n c.args.grid.now c.loop-i.grid true) c.length_of-n2.ensures
    (λ i h. c.loop-i.invariant.0 i (omega arith))
