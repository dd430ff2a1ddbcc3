use Rattle.std.proofs.Common.{◌≡◌, ℕ, List, length, get_or, sym, refl, ap, ◌∙◌}
use Rattle.algebra.specs.Weights.{cut}
use Rattle.algebra.proofs.Lines.{ready_at, cut-taken}
use Rattle.algebra.proofs.Tries.{tried_read, tried_unread}
use Rattle.product.proofs.read.RowDecoder.try_row.Goals as goal

pub read_line-requires : goal.read_line-requires
read_line-requires g c =
    let s = g.C.Code.codebook c.args.self.now.code.now in
    let line : List ℕ = c.cut.new.line in
    let x : List ℕ = c.args.cells.now in
    let ws : List ℕ = c.args.self.now.weights.each.now in
    let is : line ≡ cut (length x) (λ j. get_or ws j 0) x c.args.t = c.cut.ensures ∙ ap (λ (k : ℕ). cut k (λ j. get_or ws j 0) x c.args.t) c.requires.row.line_is in
    let long : length line ≡ length x = c.cut.auto.line ∙ c.requires.row.line_is in
    record {
      ready = ready_at s (length x) (length line) _ _ long refl c.requires.row.ready;
      tray = c.requires.row.word_is ∙ sym long;
      taken = cut-taken s c.args.self.now.weights.most (length x) c.args.t ws x line c.requires.row.ready.long c.requires.inside c.requires.row.weighed is;
    }

pub returns-then-is_some : goal.returns-then-is_some
returns-then-is_some g c =
    let x : List ℕ = c.args.cells.now in
    let ws : List ℕ = c.args.self.now.weights.each.now in
    let is : c.cut.new.line ≡ cut (length x) (λ j. get_or ws j 0) x c.args.t = c.cut.ensures ∙ ap (λ (k : ℕ). cut k (λ j. get_or ws j 0) x c.args.t) c.requires.row.line_is in
    tried_read (g.C.Code.codebook c.args.self.now.code.now) c.args.self.now.weights.most (length x) c.args.t ws x c.cut.new.line c.read_line.new.word c.read_line.result c.weigh.result c.distance_of.result
    c.requires.row.ready.long is c.weigh.ensures c.distance_of.ensures.0 c.read_line.ensures (sym c.if-is_some.ensures)

pub returns-else-is_some : goal.returns-else-is_some
returns-else-is_some g c =
    let x : List ℕ = c.args.cells.now in
    let ws : List ℕ = c.args.self.now.weights.each.now in
    let is : c.cut.new.line ≡ cut (length x) (λ j. get_or ws j 0) x c.args.t = c.cut.ensures ∙ ap (λ (k : ℕ). cut k (λ j. get_or ws j 0) x c.args.t) c.requires.row.line_is in
    rw c.if-is_some.false
    (tried_unread (g.C.Code.codebook c.args.self.now.code.now) c.args.self.now.weights.most (length x) c.args.t ws x c.cut.new.line c.read_line.new.word c.read_line.result
    c.requires.row.ready.long is c.read_line.ensures (sym c.if-is_some.ensures))
