use Rattle.std.proofs.Common.{◌≡◌, ℕ, ◌-◌, List, ◌++◌, length, set, sym, refl, subst, arith, length-drop}
use borrow.Rule.Slice.PartMut.{post_of}
use Rattle.code.specs.Cells.{Holds}
use Rattle.code.specs.Codes.{Carries}
use Rattle.code.specs.declared.cells.Content.TheVariants.{Word}
use Rattle.code.proofs.Checks.{encodes_passed}
use Rattle.sum.specs.Balance.{Balanced, but_last}
use Rattle.sum.proofs.Encoding.{encoded, carries}
use Rattle.sum.proofs.Balances.encode.Goals as goal

pub returns : goal.returns
returns g c =
    let m : List ℕ = c.args.message.now in
    let n : ℕ = c.args.self.now.n in
    let q : ℕ = g.S.Alphabet.Q in
    let ring = g.met.S.Alphabet.ring in
    let fit = c.in_ok-check_encode.ensures.passed in
    let clean : Holds Word q m = subst (λ (p : ℕ). Holds Word p m) c.Q.ensures c.in_ok-check_cells.ensures.passed in
    let rest : List ℕ = post_of 0 (n - 1 - 0) c.args.answer.now in
    let room : length rest ≡ 1 = omega (arith, length-drop (n - 1 - 0) c.args.answer.now) in
    let t = c.add_symbols.result in
    let v = c.negate.result in
    let copied = c.copy_from_slice.ensures.after in
    encodes_passed c.Q.ensures
    c.in_ok-check_encode.ensures.is c.in_ok-check_cells.ensures.is refl
    (subst (λ (front : List ℕ). Balanced g.S.Alphabet.plus q n (set (front ++ rest) (n - 1) v)) (sym copied) (encoded ring n c.args.self.now.low m fit.0 clean t v c.add_symbols.ensures c.negate.ensures rest room))
    (subst (λ (front : List ℕ). Carries (but_last n) m (set (front ++ rest) (n - 1) v)) (sym copied) (carries ring n c.args.self.now.low m fit.0 clean t v c.add_symbols.ensures c.negate.ensures rest room))
