use Rattle.std.proofs.Common.{◌≡◌, ℕ, ◌+◌, ◌-◌, ◌%◌, List, length, get_or, set, ap, ◌∙◌, arith, rules, length-set}
use Rattle.std.proofs.lemmas.List.{places}
use borrow.Rule.Slice.PartMut.{put_mid, mid_of}
use Rattle.table.specs.Tables.{Generator, coefficient}
use Rattle.table.specs.Rows.{generator_of}
use Rattle.table.proofs.Changes.{change_is, added_tabled}
use Rattle.table.proofs.Parts.{length-end}
use Rattle.table.proofs.rows.Rows.change_symbol.Goals as goal

pub returns-clause-tabled : goal.returns-clause-tabled
returns-clause-tabled g c =
    let s : Generator = generator_of c.args.self.now in
    let e : List ℕ = c.args.word.now in
    let f : List ℕ = set e c.args.i c.args.symbol in
    let checks : List ℕ = c.add_row.new.checks in
    let long : length f ≡ s.k + s.m = length-set e c.args.i c.args.symbol ∙ c.requires.tabled.sized in
    let is = change_is s g.met.S.Alphabet.ring (get_or e c.args.i 0) c.args.symbol c.negate.result c.add-change.result
    (c.requires.tabled.symbols c.args.i (omega (arith, c.requires.inside))) c.requires.symbol c.negate.ensures c.add-change.ensures in
    added_tabled s g.met.S.Alphabet.ring e (put_mid s.k (length f - s.k) f checks) c.args.i c.args.symbol c.add-change.result c.requires.tabled c.requires.inside c.requires.symbol is.1 is.0
    (length-end s.k s.m f checks long c.add_row.auto.checks)
    (λ p l. search (rules, places))
    (λ p l. let at : get_or (put_mid s.k (length f - s.k) f checks) (s.k + p) 0 ≡ get_or checks p 0 = search (rules, places) in
    let from : get_or (mid_of s.k (length f - s.k) f) p 0 ≡ get_or f (s.k + p) 0 = search (rules, places) in
    at ∙ c.add_row.ensures p l ∙ ap (λ z. s.add (z % s.q) (s.mul (c.add-change.result % s.q) (coefficient s c.args.i p) % s.q)) from)
