-- Numerals: what their length, first digit and value are, and how a field is read. Assumes nothing.
use Rattle.std.proofs.Common.{Bool, true, false, cond, Option, Some, None, ok_or, refl, ◌≡◌, ℕ, ◌+◌, ◌-◌, ◌*◌, ◌^◌, ◌<◌, ◌≤◌, List, [], ◌∷◌, length, get_or, take, decimal, Ok, Err, Result, sym, ap, ◌∙◌, subst, ⊎_elim, eq-zero-or-pos, pow-suc, add-one, arith}
use Rattle.std.proofs.lemmas.Bool.Decides.{nat_tests}
use Rattle.std.specs.Str.{all_ascii_digits}
use Rattle.std.specs.Char.{digit_value}
use Rattle.std.proofs.lemmas.Int.Digits.{digits_value_more, digits_more}
use Rattle.std.proofs.lemmas.Str.{digit_value_digit}
use Rattle.std.specs.Str.Parse.{AllDigits, digits_value}
use Rattle.std.specs.Int.{IsInRange}
use Rattle.std.proofs.lemmas.Fmt.{decimal_is_IsNumeral, decimal_nonempty, length-decimal-le, first_decimal, decimal_digit, decimal-digits_value}
use Rattle.std.proofs.lemmas.Str.Parse.{IsNumeralModel, numerals_by_value, tells_digits, tells_all_ascii_digits, digit_at}
use Rattle.std.specs.Result.{OkIff, result_ok}
use Rattle.lines.specs.Fields.{garbled, numeral, number_at, Numeral, Numbered}

own : IsNumeralModel (AllDigits 10) (digits_value 10)
own = numerals_by_value (AllDigits 10) tells_digits

small : (n : ℕ) → n ≤ 65535 → n < 2 ^ 64
small n h = omega arith

pub numeral_long : (bs : List ℕ) (n : ℕ) → Numeral bs n → (0 < length bs) × (length bs ≤ 5)
numeral_long bs n h =
    let d : 0 < length (decimal n) = decimal_nonempty n (small n h.0) in
    let l : length (decimal n) ≤ 5 = length-decimal-le 5 n (omega arith) (omega (arith, h.0)) (small n h.0) in
    let e : length bs ≡ length (decimal n) = ap length h.1 in
    (omega arith, omega arith)

pub numeral_led : (bs : List ℕ) (n : ℕ) → Numeral bs n → get_or bs 0 0 ≡ 48 → length bs ≤ 1
numeral_led bs n h z = ⊎_elim
    (λ (e : n ≡ 0). let f : bs ≡ 48 ∷ [] = h.1 ∙ (ap decimal e ∙ decimal_digit 0 (omega arith)) in omega (arith, ap length f))
    (λ (p : 0 < n). let f : 48 < get_or (decimal n) 0 0 = first_decimal n p (small n h.0) in
    let g : get_or bs 0 0 ≡ get_or (decimal n) 0 0 = ap (λ (x : List ℕ). get_or x 0 0) h.1 in absurd (omega arith))
    (eq-zero-or-pos n)

pub numeral-digit : (bs : List ℕ) (n i : ℕ) → Numeral bs n → i < length bs → IsInRange 48 57 (get_or bs i 0)
numeral-digit bs n i h lt =
    let d : AllDigits 10 bs = subst (λ (x : List ℕ). AllDigits 10 x) (sym h.1) (decimal_is_IsNumeral n (small n h.0)).0.1 in
    digit_at bs i d lt

pub numeral_value : (bs : List ℕ) (n : ℕ) → Numeral bs n → digits_value 10 bs ≡ n
numeral_value bs n h = ap (λ (x : List ℕ). digits_value 10 x) h.1 ∙ (decimal_is_IsNumeral n (small n h.0)).1

pub numeral_read : (bs : List ℕ) (n : ℕ) → AllDigits 10 bs → 0 < length bs → (get_or bs 0 0 ≡ 48 → length bs ≡ 1) → n ≡ digits_value 10 bs → n ≤ 65535 → Numeral bs n
numeral_read bs n d some led e le =
    (le, sym (decimal-digits_value own bs d some led (omega arith)) ∙ ap decimal (sym e))

-- one digit more
pub step : (bs : List ℕ) (n i d : ℕ) → i < length bs → IsInRange 48 57 (get_or bs i 0) → d ≡ get_or bs i 0 - 48 → n ≡ digits_value 10 (take i bs) → AllDigits 10 (take i bs) → n < 10 ^ i
    → (n * 10 + d ≡ digits_value 10 (take (i + 1) bs)) × AllDigits 10 (take (i + 1) bs) × (n * 10 + d < 10 ^ (i + 1))
step bs n i d lt dig e ev ds small' =
    let v : digit_value (get_or bs i 0) + 48 ≡ get_or bs i 0 = digit_value_digit (get_or bs i 0) dig in
    let w : digits_value 10 (take (i + 1) bs) ≡ digits_value 10 (take i bs) * 10 + digit_value (get_or bs i 0) = digits_value_more 10 bs i lt in
    let p : 10 ^ (i + 1) ≡ 10 ^ i * 10 = rw add-one (pow-suc 10 i) in (
      omega arith,
      digits_more 10 bs i lt ds (omega arith),
      omega arith,
    )

numeral_digits : (bs : List ℕ) (n : ℕ) → Numeral bs n → AllDigits 10 bs
numeral_digits bs n h = subst (λ (x : List ℕ). AllDigits 10 x) (sym h.1) (decimal_is_IsNumeral n (small n h.0)).0.1

-- what a conversion to 16 bits makes of digits
pub converted : {E : Type 0} (bs : List ℕ) (n : ℕ) (r : Result ℕ E) → OkIff r (n < 65536) n → n ≡ digits_value 10 bs → AllDigits 10 bs → 0 < length bs → (get_or bs 0 0 ≡ 48 → length bs ≡ 1) → Numbered bs (result_ok r)
converted bs n (Ok m) h e d some led = numeral_read bs m d some led (h.1 ∙ e) (omega arith)
converted bs n (Err x) h e d some led = λ k w. h (omega (arith, numeral_value bs k w))

-- a field is read as the definition says: as its value where it is a numeral, and as garbled where it is none
tested : IsNumeralModel (λ (ds : List ℕ). all_ascii_digits ds ≡ true) (digits_value 10)
tested = numerals_by_value (λ (ds : List ℕ). all_ascii_digits ds ≡ true) tells_all_ascii_digits

number_some : (bs : List ℕ) (k n : ℕ) → Numeral bs n → Ok n ≡ number_at k bs
number_some bs k n h =
    let l = numeral_long bs n h in
    let z = numeral_led bs n h in
    let v : digits_value 10 bs ≡ n = numeral_value bs n h in
    let d : all_ascii_digits bs ≡ true = tested.from bs (numeral_digits bs n h) in
    let le : n ≤ 65535 = h.0 in
    let t : numeral bs ≡ true = grind (arith, nat_tests) in
    cc

number_none : (bs : List ℕ) (k : ℕ) → ((n : ℕ) → Numeral bs n → ⊥) → Err (garbled k) ≡ number_at k bs
number_none bs k h = byTest (numeral bs) refl
  where
    byTest : (t : Bool) → numeral bs ≡ t → Err (garbled k) ≡ cond t (Ok (digits_value 10 bs)) (Err (garbled k))
    byTest false e = refl
    byTest true e =
        let d : all_ascii_digits bs ≡ true = grind (arith, nat_tests) in
        let some : 0 < length bs = grind (arith, nat_tests) in
        let le : digits_value 10 bs ≤ 65535 = grind (arith, nat_tests) in
        let led : get_or bs 0 0 ≡ 48 → length bs ≡ 1 = λ (z : get_or bs 0 0 ≡ 48). grind (arith, nat_tests) in
        absurd (h (digits_value 10 bs) (numeral_read bs (digits_value 10 bs) (tested.to bs d) some led refl le))

pub number_is : (bs : List ℕ) (k : ℕ) (r : Option ℕ) → Numbered bs r → ok_or r (garbled k) ≡ number_at k bs
number_is bs k (Some n) h = number_some bs k n h
number_is bs k None h = number_none bs k h
