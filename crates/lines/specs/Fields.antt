-- The fields of a line, and the numbers that they write. Assumes nothing.
use Rattle.std.specs.Prelude.{◌≡◌, ℕ, suc, ◌≤◌, Bool, true, cond, ◌&&◌, List, [], ◌∷◌, length, Some, None, Ok, Err, decimal, Option, Result, ◌==◌, nat_le, slice_index}
use Rattle.std.specs.Borrow.{Bor}
use Rattle.std.specs.Str.Parse.{digits_value}
use Rattle.std.specs.Str.{all_ascii_digits}
use Rattle.code.specs.declared.refusals.Reason.TheVariants.{Garbled}
use Rattle.code.specs.declared.refusals.Refusal.{Refusal}
use Rattle.code.specs.Refusals.{refusal}

-- one byte more at the front of the first part
abbrev pub onto : ℕ → List (List ℕ) → List (List ℕ)
onto b [] = (b ∷ []) ∷ []
onto b (f ∷ fs) = (b ∷ f) ∷ fs

-- the fields of a line: the parts between its tabs, byte 9
abbrev pub fields : List ℕ → List (List ℕ)
fields [] = [] ∷ []
fields (b ∷ bs) = cond (b == 9) ([] ∷ fields bs) (onto b (fields bs))

-- the fields of what follows a tab, if something does
abbrev pub others : Option (Bor (List ℕ)) → List (List ℕ)
others None = []
others (Some rest) = fields rest.now

-- how many bytes stand before the first mark, or all
abbrev pub till : ℕ → List ℕ → ℕ
till mark [] = 0
till mark (b ∷ bs) = cond (b == mark) 0 (suc (till mark bs))

-- the line is garbled at field k
abbrev pub garbled : ℕ → Refusal
garbled k = refusal Garbled k

-- one to five digits, no leading zero except 0 itself, at most 65,535
abbrev pub numeral : List ℕ → Bool
numeral f = nat_le 1 (length f) && (nat_le (length f) 5 && (all_ascii_digits f && (cond (slice_index f 0 == 48) (length f == 1) true && nat_le (digits_value 10 f) 65535)))

-- the number that field k writes, or the garbled field
abbrev pub number_at : ℕ → List ℕ → Result ℕ Refusal
number_at k f = cond (numeral f) (Ok (digits_value 10 f)) (Err (garbled k))

-- the same by the printing of numbers: the bytes are those that n is written with
abbrev pub Numeral : List ℕ → ℕ → Type 0
Numeral bs n = (n ≤ 65535) × (bs ≡ decimal n)

abbrev pub Numbered : List ℕ → Option ℕ → Type 0
Numbered bs (Some n) = Numeral bs n
Numbered bs None = (n : ℕ) → Numeral bs n → ⊥

-- what comes of r: go on from its value, or its refusal stands
abbrev pub and_then : {X Y : Type 0} → Result X Refusal → (X → Result Y Refusal) → Result Y Refusal
and_then (Ok x) go = go x
and_then (Err e) go = Err e

-- x where no field is left, and else the next field, k, is garbled
abbrev pub ended : {X : Type 0} → X → ℕ → List (List ℕ) → Result X Refusal
ended x k [] = Ok x
ended x k (f ∷ fs) = Err (garbled k)
