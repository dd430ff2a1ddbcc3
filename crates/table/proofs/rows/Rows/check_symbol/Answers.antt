use Rattle.std.proofs.Common.{inl, inr, ⊎_elim}
use Rattle.std.proofs.lemmas.List.{length_push}
use Rattle.table.proofs.Walks.{begun, walk_more, walked}
use Rattle.table.proofs.rows.Rows.check_symbol.Goals as goal

pub loop-symbol-init : goal.loop-symbol-init
loop-symbol-init g c = begun _ _ c.args.j g.met.S.Alphabet.ring _ _ _ (cc) (cc) (cc)

pub loop-symbol-preserved : goal.loop-symbol-preserved
loop-symbol-preserved g c =
    rw (length_push c.loop-symbol.yielded)
    (walk_more _ _ c.args.j g.met.S.Alphabet.ring _ _ _ _ _ c.loop-symbol.invariant
    _ _ _ _ _ _ _ c.requires.message.sized c.requires.message.symbols c.requires.inside
    c.in-Some.ensures.steps.0 c.in-Some.ensures.steps.1.1.0 c.in-Some.ensures.steps.1.1.1 c.in-Some.ensures.steps.1.0 c.multiply.ensures c.add-sum.ensures)

pub returns : goal.returns
returns g c =
    walked _ _ c.args.j g.met.S.Alphabet.ring _ _ _ _ _ c.loop-symbol.invariant c.requires.message.sized c.args.self.now.table
    (⊎_elim (λ e. inl e.1.0) (λ e. inr e.1.1.0) c.in-None.ensures.steps)
