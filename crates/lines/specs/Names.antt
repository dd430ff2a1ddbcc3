-- What the first line asks for: CODE and the name of a code. Assumes nothing.
use Rattle.std.specs.Prelude.{ℕ, cond, List, [], ◌∷◌, length, Ok, Err, codes, Result, nat_le}
use Rattle.std.specs.Str.{bytes_eq}
use Rattle.code.specs.declared.refusals.Refusal.{Refusal}
use Rattle.lines.specs.declared.names.Name.{Name}
use Rattle.lines.specs.declared.names.Name.TheVariants.{Trip, Fare, Shift}
use Rattle.lines.specs.Fields.{fields, garbled, and_then, ended}

-- the code that a field names
abbrev pub name_in : List ℕ → Result Name Refusal
name_in f =
    cond (bytes_eq f (codes "TRIP")) (Ok Trip)
    (cond (bytes_eq f (codes "FARE")) (Ok Fare)
    (cond (bytes_eq f (codes "SHIFT")) (Ok Shift) (Err (garbled 2))))

-- the name in field 2, and no field after it
abbrev pub name_asked : List (List ℕ) → Result Name Refusal
name_asked [] = Err (garbled 2)
name_asked (f ∷ fs) = and_then (name_in f) (λ x. ended x 3 fs)

-- CODE in field 1
abbrev pub code_asked : List (List ℕ) → Result Name Refusal
code_asked [] = Err (garbled 1)
code_asked (f ∷ fs) = cond (bytes_eq f (codes "CODE")) (name_asked fs) (Err (garbled 1))

-- the code that the first line names, or the field under which it is garbled
abbrev pub named : List ℕ → Result Name Refusal
named line = cond (nat_le (length line) 64) (code_asked (fields line)) (Err (garbled 0))
