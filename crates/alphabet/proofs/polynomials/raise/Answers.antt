use Rattle.std.proofs.Common.{◌≡◌, ◌*◌, ◌%◌, arith}
use lib.Bits.{bit_xor}
use Rattle.std.proofs.lemmas.Bool.Decides.{nat_tests}
use Rattle.alphabet.specs.Shifts.{raised}
use Rattle.alphabet.specs.Field.{raised_below}
use Rattle.alphabet.proofs.polynomials.raise.Goals as goal

pub returns-else-shifted-lt16 : goal.returns-else-shifted-lt16
returns-else-shifted-lt16 c =
    let whole : c.args.a * 2 % 65536 ≡ c.args.a * 2 = omega arith in
    let is : bit_xor (c.args.a * 2 % 65536) 19 ≡ raised c.args.a = rw whole (grind (arith, nat_tests)) in
    record { is = is; below = rw is (raised_below c.args.a c.requires) }
