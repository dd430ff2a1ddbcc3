use Rattle.std.proofs.Common.{◌≡◌, ◌<◌, length, get_or, take, arith, rules}
use Rattle.std.proofs.lemmas.List.{take_all}
use Rattle.std.proofs.lemmas.Bool.Decides.{nat_tests}
use Rattle.lines.proofs.Numerals.{numeral_long, numeral_led, numeral-digit, step, converted}
use Rattle.lines.proofs.numbers.read_number.Goals as goal

pub returns-then-is_empty : goal.returns-then-is_empty
returns-then-is_empty c = λ n h. let l = numeral_long c.args.field.now n h in grind arith

pub returns-in-48 : goal.returns-in-48
returns-in-48 c = λ n h. let z : get_or c.args.field.now 0 0 ≡ 48 = search rules in omega (arith, numeral_led c.args.field.now n h z)

pub returns-then-not-is_ascii_digit : goal.returns-then-not-is_ascii_digit
returns-then-not-is_ascii_digit c = λ n h.
    let none = c.if-not-is_ascii_digit.ensures.cases in
    omega (arith, numeral-digit c.args.field.now n c.loop-b.b-index h c.loop-b-test.true)

pub loop-b-preserved : goal.loop-b-preserved
loop-b-preserved c =
    let i = c.loop-b.invariant in
    let more = step c.args.field.now c.loop-b.n c.loop-b.b-index c.from.result c.loop-b-test.true c.if-not-is_ascii_digit.ensures.cases c.from.ensures i.value i.digits i.small in
    record { value = more.0; digits = more.1; small = more.2 }

pub returns : goal.returns
returns c =
    let i = c.loop-b.invariant in
    let whole : take c.loop-b.b-index c.args.field.now ≡ c.args.field.now = take_all c.loop-b.b-index c.args.field.now c.loop-b-test.false in
    let some : 0 < length c.args.field.now = grind arith in
    let led : get_or c.args.field.now 0 0 ≡ 48 → length c.args.field.now ≡ 1 = λ z. grind (arith, nat_tests) in
    rw c.ok.ensures.value (converted c.args.field.now c.loop-b.n c.try_from.result c.try_from.ensures (rw whole at i.value) (rw whole at i.digits) some led)
