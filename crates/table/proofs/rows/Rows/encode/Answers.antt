use Rattle.std.proofs.Common.{◌≡◌, ℕ, ◌+◌, ◌-◌, ◌<◌, List, ◌++◌, length, get_or, drop, refl, ap, ◌∙◌, arith, rules, length-append, length-drop}
use Rattle.std.proofs.lemmas.List.{places, get_or_append_left}
use borrow.Rule.Slice.PartMut.{put_mid}
use Rattle.code.proofs.Checks.{encodes_passed}
use Rattle.table.specs.Tables.{Generator}
use Rattle.table.specs.Rows.{generator_of}
use Rattle.table.specs.Laws.{made_at, made_word}
use Rattle.table.proofs.Parts.{length-end, symbol_good}
use Rattle.table.proofs.rows.Rows.encode.Goals as goal

pub returns : goal.returns
returns g c =
    let s : Generator = generator_of c.args.self.now in
    let ring = g.met.S.Alphabet.ring in
    let message : List ℕ = c.args.message.now in
    let x : ℕ → ℕ = λ i. get_or message i 0 in
    let fit = c.in_ok-check_encode.ensures.passed in
    let copied = c.copy_from_slice.ensures.after in
    let mid : List ℕ = c.copy_from_slice.new.self ++ drop s.k c.args.answer.now in
    let checks : List ℕ = c.write_checks.new.checks in
    let out : List ℕ = put_mid s.k (length mid - s.k) mid checks in
    let sized : length c.copy_from_slice.new.self ≡ s.k = ap length copied ∙ fit.0 in
    let long : length mid ≡ s.k + s.m = omega (arith, sized, length-append c.copy_from_slice.new.self (drop s.k c.args.answer.now), length-drop s.k c.args.answer.now, fit.1, c.length-n.ensures) in
    let front : (i : ℕ) → i < s.k → get_or out i 0 ≡ x i =
    λ i l. let at : get_or out i 0 ≡ get_or mid i 0 = search (rules, places) in
    at ∙ get_or_append_left c.copy_from_slice.new.self (drop s.k c.args.answer.now) 0 i (omega arith) ∙ ap (λ u. get_or u i 0) copied in
    let back : (j : ℕ) → j < s.m → get_or out (s.k + j) 0 ≡ get_or checks j 0 = λ j l. search (rules, places) in
    let low : (i : ℕ) → i < s.k → x i < s.q =
    λ i l. symbol_good (x i) s.q c.Q.result c.Q.ensures (c.in_ok-check_cells.ensures.passed i (omega (arith, fit.0))) in
    encodes_passed c.Q.ensures
    (rw c.length-n.ensures at c.in_ok-check_encode.ensures.is) c.in_ok-check_cells.ensures.is (rw c.length-n.ensures at c.zero_front.ensures)
    (made_word s ring x out low (length-end s.k s.m mid checks long c.write_checks.auto.checks) (made_at s ring x message out (λ i l. refl) front (λ j l. back j l ∙ c.write_checks.ensures j l)))
    front
