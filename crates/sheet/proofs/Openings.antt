-- What an accepted opening says of the sizes. Assumes nothing.
use Rattle.std.proofs.Common.{◌≡◌, ℕ, Ok, arith}
use Rattle.std.proofs.lemmas.Bool.Decides.{nat_tests}
use Rattle.sheet.specs.Runs.{opening, opened}

pub opened_full : (n w cells : ℕ) → opening n w cells ≡ Ok tt → opened n w cells ≡ n
opened_full n w cells e = rw e

pub opening_fits : (n w cells : ℕ) → opening n w cells ≡ Ok tt → cells ≡ n
opening_fits n w cells e = grind (arith, nat_tests)
