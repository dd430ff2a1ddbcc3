-- What a line asks of the sheet, its fields taken from the left. Assumes nothing.
use Rattle.std.specs.Prelude.{ℕ, suc, cond, List, [], ◌∷◌, length, Ok, Err, Result, ◌==◌, nat_le}
use Rattle.code.specs.declared.refusals.Refusal.{Refusal}
use Rattle.sheet.specs.declared.calls.Call.{Call}
use Rattle.sheet.specs.declared.calls.Call.TheVariants.{Put, Blot, Wipe, Read}
use Rattle.lines.specs.Fields.{fields, garbled, number_at, and_then, ended}

-- the number in field k, which is the last
abbrev pub last_number : ℕ → List (List ℕ) → Result ℕ Refusal
last_number k [] = Err (garbled k)
last_number k (f ∷ fs) = and_then (number_at k f) (λ n. ended n (suc k) fs)

-- a put: its place in field 2, its symbol in field 3
abbrev pub put_asked : List (List ℕ) → Result Call Refusal
put_asked [] = Err (garbled 2)
put_asked (f ∷ fs) = and_then (number_at 2 f) (λ p. and_then (last_number 3 fs) (λ s. Ok (Put p s)))

-- a blot: its place in field 2
abbrev pub blot_asked : List (List ℕ) → Result Call Refusal
blot_asked fs = and_then (last_number 2 fs) (λ p. Ok (Blot p))

-- by the letter P, B, W or R, with the fields after it
abbrev pub commanded : ℕ → List (List ℕ) → Result Call Refusal
commanded b fs =
    cond (b == 80) (put_asked fs)
    (cond (b == 66) (blot_asked fs)
    (cond (b == 87) (ended Wipe 2 fs)
    (cond (b == 82) (ended Read 2 fs) (Err (garbled 1)))))

-- the first field is one letter
abbrev pub wanted : List (List ℕ) → Result Call Refusal
wanted [] = Err (garbled 1)
wanted ([] ∷ fs) = Err (garbled 1)
wanted ((b ∷ []) ∷ fs) = commanded b fs
wanted ((b ∷ c ∷ bs) ∷ fs) = Err (garbled 1)

-- the call that a line asks for, or the field under which it is garbled: field 0 where the line is longer than 64 bytes
abbrev pub asked : List ℕ → Result Call Refusal
asked line = cond (nat_le (length line) 64) (wanted (fields line)) (Err (garbled 0))
