use Rattle.std.proofs.Common.{ℕ, List, Some, None, length, set, sym, refl, subst}
use Rattle.code.specs.declared.cells.Content.TheVariants.{Received}
use Rattle.code.specs.Cells.{Holds}
use Rattle.code.specs.Calls.{Within}
use Rattle.code.proofs.Checks.{reads_passed}
use Rattle.sum.specs.Balance.{balances}
use Rattle.sum.proofs.Scanning.{at_hole}
use Rattle.sum.proofs.Reading.{read_whole, unbalanced, read_filled}
use Rattle.sum.proofs.Balances.read.Goals as goal

pub returns-in-Some-hole : goal.returns-in-Some-hole
returns-in-Some-hole g c =
    let r : List ℕ = c.args.received.now in
    let n : ℕ = c.args.self.now.n in
    let h : ℕ = c.in-Some-hole.hole in
    let B = balances g.S.Alphabet.plus g.S.Alphabet.Q n in
    let clean : Holds Received g.S.Alphabet.Q r = subst (λ (q : ℕ). Holds Received q r) c.Q.ensures c.in_ok-check_cells.ensures.passed in
    let told = at_hole g.S.Alphabet.plus r (length r) c.in-Some.scan.total c.in-Some.scan.hole (Some h) c.in-Some-hole.is c.in-Some.ensures in
    let near =
    read_filled g.met.S.Alphabet.ring n c.args.self.now.low r c.in_ok-check_read.ensures.passed.0 clean _ told refl
    c.negate.result c.negate.ensures in
    reads_passed {a' = set c.copy_from_slice.new.self h c.negate.result} c.Q.ensures
    c.in_ok-check_read.ensures.is c.in_ok-check_cells.ensures.is refl
    (subst (λ (a : List ℕ). Within B r (set a h c.negate.result) (record { wrong = 0; blank = 1 })) (sym c.copy_from_slice.ensures.after) near)

pub returns-in-None : goal.returns-in-None
returns-in-None g c =
    let r : List ℕ = c.args.received.now in
    let n : ℕ = c.args.self.now.n in
    let B = balances g.S.Alphabet.plus g.S.Alphabet.Q n in
    let clean : Holds Received g.S.Alphabet.Q r = subst (λ (q : ℕ). Holds Received q r) c.Q.ensures c.in_ok-check_cells.ensures.passed in
    let told = at_hole g.S.Alphabet.plus r (length r) c.in-Some.scan.total c.in-Some.scan.hole None c.in-None.is c.in-Some.ensures in
    let near =
    read_whole g.met.S.Alphabet.ring n c.args.self.now.low r c.in_ok-check_read.ensures.passed.0 clean _ told refl c.if-scan-eq0.true in
    reads_passed {a' = c.copy_from_slice-in-None.new.self} c.Q.ensures
    c.in_ok-check_read.ensures.is c.in_ok-check_cells.ensures.is refl
    (subst (λ (a : List ℕ). Within B r a (record { wrong = 0; blank = 0 })) (sym c.copy_from_slice-in-None.ensures.after) near)

pub returns-in-None-2 : goal.returns-in-None-2
returns-in-None-2 g c =
    let r : List ℕ = c.args.received.now in
    let n : ℕ = c.args.self.now.n in
    let clean : Holds Received g.S.Alphabet.Q r = subst (λ (q : ℕ). Holds Received q r) c.Q.ensures c.in_ok-check_cells.ensures.passed in
    let told = at_hole g.S.Alphabet.plus r (length r) c.in-Some.scan.total c.in-Some.scan.hole None c.in-None.is c.in-Some.ensures in
    reads_passed {a' = c.args.answer.now} c.Q.ensures
    c.in_ok-check_read.ensures.is c.in_ok-check_cells.ensures.is refl (
      c.at-in-None-2.ensures,
      unbalanced g.met.S.Alphabet.ring n c.args.self.now.low r c.in_ok-check_read.ensures.passed.0 clean _ told refl c.if-scan-eq0.false,
      refl,
    )
