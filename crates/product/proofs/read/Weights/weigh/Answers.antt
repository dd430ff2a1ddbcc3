use Rattle.std.proofs.Common.{◌≡◌, ℕ, ◌<◌, List, length, get_or, ap, ◌∙◌, arith}
use Rattle.std.specs.List.{zip}
use Rattle.std.proofs.lemmas.List.{length_push, get_or_default}
use Rattle.std.proofs.lemmas.Slice.Zip.{length-zip, get_or-zip}
use Rattle.std.proofs.lemmas.Iterator.{YieldsList-from_slice, YieldsList-from_zip}
use Rattle.std.proofs.lemmas.Iterator.Consumers.{YieldsList-turn}
use Rattle.alphabet.proofs.Sums.{sum_more}
use Rattle.algebra.specs.Weights.{heavy}
use Rattle.product.proofs.read.Weights.weigh.Goals as goal

-- the turn's cell, symbol and weight stand at its index
read : (xs ys ws : List ℕ) (i x y w : ℕ) → (i < length (zip (zip xs ys) ws)) × (((x, y), w) ≡ get_or (zip (zip xs ys) ws) i ((x, y), w))
    → (x ≡ get_or xs i 0) × (y ≡ get_or ys i 0) × (w ≡ get_or ws i 0)
read xs ys ws i x y w h =
    let l = length-zip (zip xs ys) ws in
    let m = length-zip xs ys in
    let in_pairs : i < length (zip xs ys) = omega (arith, h.0, l) in
    let in_xs : i < length xs = omega (arith, h.0, l, m) in
    let in_ys : i < length ys = omega (arith, h.0, l, m) in
    let in_ws : i < length ws = omega (arith, h.0, l) in
    let e = h.1 ∙ get_or-zip (zip xs ys) ws i ((x, y), w) in_pairs in_ws in
    let f = ap (λ (p : (ℕ × ℕ) × ℕ). p.0) e ∙ get_or-zip xs ys i (x, y) in_xs in_ys in (
      ap (λ (p : ℕ × ℕ). p.0) f ∙ get_or_default xs i x 0 in_xs,
      ap (λ (p : ℕ × ℕ). p.1) f ∙ get_or_default ys i y 0 in_ys,
      ap (λ (p : (ℕ × ℕ) × ℕ). p.1) e ∙ get_or_default ws i w 0 in_ws,
    )

pub loop-cell-preserved : goal.loop-cell-preserved
loop-cell-preserved c =
    let cells : List ℕ = c.args.cells.now in
    let word : List ℕ = c.args.word.now in
    let ws : List ℕ = c.args.self.now.each.now in
    let i : ℕ = length c.loop-cell.yielded in
    let turn = YieldsList-turn (YieldsList-from_zip (YieldsList-from_zip (YieldsList-from_slice cells cc) (YieldsList-from_slice word cc)) (YieldsList-from_slice ws cc))
    c.loop-cell.yielded c.loop-cell.cell-iterator c.loop-cell.yielded_by _ c.next.new.self ((c.in-Some.cell, c.in-Some.symbol), c.in-Some.weight) c.in-Some.is c.next.ensures.steps in
    let is = read cells word ws i c.in-Some.cell.now c.in-Some.symbol.now c.in-Some.weight.now turn in
    let more = sum_more i (λ k. heavy c.args.self.now.most (get_or ws k 0) (get_or cells k 0) (get_or word k 0)) in
    let long = length_push c.loop-cell.yielded ((c.in-Some.cell, c.in-Some.symbol), c.in-Some.weight) in
    let same : heavy c.args.self.now.most c.in-Some.weight.now c.in-Some.cell.now c.in-Some.symbol.now ≡ heavy c.args.self.now.most (get_or ws i 0) (get_or cells i 0) (get_or word i 0) = rw (is.0, is.1, is.2) in
    rw long (omega (arith, more, same, c.loop-cell.invariant.0, c.heavy_cell-total.ensures.is), omega (arith, c.loop-cell.invariant.1, c.heavy_cell-total.ensures.low))
