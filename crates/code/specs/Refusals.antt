-- Refusals: the nine reasons with their numbers, and the checks that each call makes before its work, in their order. Assumes nothing.
use Rattle.std.specs.Prelude.{ℕ, Bool, cond, ◌||◌, List, length, Ok, Err, codes, Result, ◌==◌, nat_lt}
use Rattle.std.specs.List.{prefix_len}
use Rattle.code.specs.declared.refusals.Reason.{Reason}
use Rattle.code.specs.declared.refusals.Reason.TheVariants.{Oversize, Misfit, WrongTray, Cramped, Smudge, Lost, OffSheet, Unset, Garbled}
use Rattle.code.specs.declared.refusals.Refusal.{Refusal}
use Rattle.code.specs.declared.refusals.Sizes.{Sizes}

abbrev pub number : Reason → ℕ
number Oversize = 1
number Misfit = 2
number WrongTray = 3
number Cramped = 4
number Smudge = 5
number Lost = 6
number OffSheet = 7
number Unset = 8
number Garbled = 9

abbrev pub word : Reason → List ℕ
word Oversize = codes "Oversize"
word Misfit = codes "Misfit"
word WrongTray = codes "Wrong tray"
word Cramped = codes "Cramped"
word Smudge = codes "Smudge"
word Lost = codes "Lost"
word OffSheet = codes "Off sheet"
word Unset = codes "Unset"
word Garbled = codes "Garbled"

abbrev pub refusal : Reason → ℕ → Refusal
refusal r p = record { reason = r; place = p }

-- what a check says: go on, or a refusal
abbrev pub Verdict : Type 0
Verdict = Result (Unit {0}) Refusal

-- the sizes of a call, of a code of length n with w working cells: too large for any call, then the input's, the answer's and the working cells'
abbrev pub sized : (n w : ℕ) (lent asked : Sizes) → Verdict
sized n w lent asked =
    cond (nat_lt 4096 n || nat_lt 16384 w) (Err (refusal Oversize 0))
    (cond (lent.input == asked.input)
    (cond (lent.answer == asked.answer)
    (cond (nat_lt lent.working asked.working) (Err (refusal Cramped 0)) (Ok tt))
    (Err (refusal WrongTray 0)))
    (Err (refusal Misfit 0)))

-- the sizes of each call, of a code with n symbols to a word, k to a message and w working cells

-- read: n received cells r, n answer cells a, and w working cells s or more
abbrev pub read_sizing : (n w : ℕ) (r a s : List ℕ) → Verdict
read_sizing n w r a s =
    sized n w
    (record { input = length r; answer = length a; working = length s })
    (record { input = n; answer = n; working = w })

-- lawful: n cells r, and w working cells s or more
abbrev pub judge_sizing : (n w : ℕ) (r s : List ℕ) → Verdict
judge_sizing n w r s =
    sized n w
    (record { input = length r; answer = 0; working = length s })
    (record { input = n; answer = 0; working = w })

-- encode: k message symbols m, n answer cells a, and w working cells s or more
abbrev pub encode_sizing : (n k w : ℕ) (m a s : List ℕ) → Verdict
encode_sizing n k w m a s =
    sized n w
    (record { input = length m; answer = length a; working = length s })
    (record { input = k; answer = n; working = w })

-- take-out: n symbols r and k answer cells a
abbrev pub take_sizing : (n k w : ℕ) (r a : List ℕ) → Verdict
take_sizing n k w r a =
    sized n w
    (record { input = length r; answer = length a; working = 0 })
    (record { input = n; answer = k; working = 0 })

-- the first cell that does not pass the test is a smudge
abbrev pub clean : (ℕ → Bool) → List ℕ → Verdict
clean test xs = cond (nat_lt (prefix_len test xs) (length xs)) (Err (refusal Smudge (prefix_len test xs))) (Ok tt)

-- one check, and where it passes the next
abbrev pub then : {E : Type 0} → Result (Unit {0}) E → Result (Unit {0}) E → Result (Unit {0}) E
then (Ok u) v = v
then (Err e) v = Err e
