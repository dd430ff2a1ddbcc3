use Rattle.std.proofs.Common.{◌≡◌, ℕ, ◌+◌, ◌*◌, ◌≤◌, List, length, sym, refl, ◌∙◌, arith}
use Rattle.algebra.specs.Grids.{column}
use Rattle.algebra.proofs.Lines.{column-taken, column-found, found_word, found_none}
use Rattle.product.proofs.read.correct_column.Goals as goal

pub read_line-requires-clause-taken : goal.read_line-requires-clause-taken
read_line-requires-clause-taken g c =
    column-taken (g.C.Code.codebook c.args.code.now).q _ c.args.n2 c.args.received.now _ c.args.j c.requires.within c.requires.fits.0 c.take_column.ensures c.requires.taken

pub returns-in-None : goal.returns-in-None
returns-in-None g c =
    let s = g.C.Code.codebook c.args.code.now in
    let line : List ℕ = c.take_column.new.line in
    let n : ℕ = length c.args.line.now in
    let far = c.distance_of.ensures in
    record {
      found = column-found s n n c.args.n2 c.args.j c.distance_of.result c.args.received.now c.args.grid.now line (column n c.args.n2 c.args.grid.now c.args.j)
          c.take_column.ensures refl refl (found_none s line _ c.distance_of.result far.0 c.in-None.ensures);
      low = far.1;
      others = λ k l ne. refl;
    }

pub returns-in-Some : goal.returns-in-Some
returns-in-Some g c =
    let s = g.C.Code.codebook c.args.code.now in
    let p = g.met.C.Code.apart c.args.code.now in
    let line : List ℕ = c.take_column.new.line in
    let n : ℕ = length c.args.line.now in
    let word : List ℕ = c.read_line.new.word in
    let told = c.in-Some.ensures in
    let m : length word ≡ n = c.read_line.auto.word ∙ c.requires.lines in
    let low : 2 * c.in-Some.found.wrong + c.in-Some.found.blank ≤ 4096 = omega (arith, told.reach, told.wrong, told.blank, p.short, c.requires.ready.long, c.requires.ready.short) in
    let is : c.cost.result ≡ 2 * c.in-Some.found.wrong + c.in-Some.found.blank = omega (arith, c.cost.ensures, low) in
    record {
      found = rw is (column-found s n (length word) c.args.n2 c.args.j _ c.args.received.now c.put_column.new.grid line word
          c.take_column.ensures c.put_column.ensures.here m (found_word s line word c.in-Some.found told));
      low = omega (arith, is, low);
      others = λ k l ne. rw (sym m) (c.put_column.ensures.others k l ne);
    }
