-- What each call of a sheet answers and leaves, and what a whole run of calls does. Assumes nothing.
use Rattle.std.specs.Prelude.{◌≡◌, ℕ, cond, ◌||◌, List, [], ◌∷◌, ◌++◌, take, drop, replicate, is_ok, Some, None, Ok, Err, Option, Result, ◌==◌, nat_lt, slice_set}
use Rattle.code.specs.declared.cells.Counts.{Counts}
use Rattle.code.specs.declared.refusals.Reason.TheVariants.{Oversize, Misfit, WrongTray, Smudge, OffSheet}
use Rattle.code.specs.declared.refusals.Refusal.{Refusal}
use Rattle.code.specs.Cells.{blank}
use Rattle.code.specs.Codes.{Codebook}
use Rattle.code.specs.Calls.{Reads}
use Rattle.code.specs.Refusals.{refusal}
use Rattle.sheet.specs.declared.calls.Call.{Call}
use Rattle.sheet.specs.declared.calls.Call.TheVariants.{Put, Blot, Wipe, Read}
use Rattle.sheet.specs.declared.calls.Step.{Step}
use Rattle.sheet.specs.declared.faults.Fault.{Fault}
use Rattle.sheet.specs.declared.faults.Fault.TheVariants.{Code, Sheet}
use Rattle.sheet.specs.Marks.{Marks}

-- what a check of the sheet's own says: go on, or a fault
abbrev pub Verdict : Type 0
Verdict = Result (Unit {0}) Fault

abbrev pub Outcome : Type 0
Outcome = Result (Option Counts) Fault

-- ---- opening

-- whether a sheet may be opened over so many cells, for a code of length n with w working cells
abbrev pub opening : (n w cells : ℕ) → Verdict
opening n w cells =
    cond (nat_lt 4096 n || nat_lt 16384 w) (Err (Sheet (refusal Oversize 0)))
    (cond (cells == n) (Ok tt) (Err (Sheet (refusal Misfit 0))))

-- a sheet that may not be opened takes no cells
abbrev pub opened : (n w cells : ℕ) → ℕ
opened n w cells = cond (is_ok (opening n w cells)) n 0

-- ---- each call, on a sheet of n places for q symbols over the cells xs, of which the first n are the sheet's

abbrev pub putting : (q n place symbol : ℕ) → Verdict
putting q n i s = cond (nat_lt i n) (cond (nat_lt s q) (Ok tt) (Err (Sheet (refusal Smudge i)))) (Err (Sheet (refusal OffSheet i)))

abbrev pub blotting : (n place : ℕ) → Verdict
blotting n i = cond (nat_lt i n) (Ok tt) (Err (Sheet (refusal OffSheet i)))

-- the cells after the call
abbrev pub left : (q n : ℕ) → Call → List ℕ → List ℕ
left q n (Put i s) xs = cond (is_ok (putting q n i s)) (slice_set xs i s) xs
left q n (Blot i) xs = cond (is_ok (blotting n i)) (slice_set xs i blank) xs
left q n Wipe xs = replicate n blank ++ drop n xs
left q n Read xs = xs

-- a refusal of the code comes up whole
abbrev pub carried : Result Counts Refusal → Result Counts Fault
carried (Ok c) = Ok c
carried (Err e) = Err (Code e)

-- a read by the code with the codebook b is what that code's read is on the cells xs; a and a' are the answer cells before and after, k and k' the working cells
abbrev pub Passes : Codebook → (xs a a' k k' : List ℕ) → Result Counts Fault → Type 0
Passes b xs a a' k k' r = (res : Result Counts Refusal) × (r ≡ carried res) × Reads b xs a a' k k' res

abbrev pub marking : Verdict → Outcome
marking (Ok u) = Ok None
marking (Err f) = Err f

abbrev pub reading : Result Counts Fault → Outcome
reading (Ok c) = Ok (Some c)
reading (Err f) = Err f

-- how a call goes that is made while the cells are xs
abbrev pub Goes : Codebook → (q n : ℕ) → List ℕ → Call → Outcome → (a a' k k' : List ℕ) → Type 0
Goes b q n xs (Put i s) o a a' k k' = (o ≡ marking (putting q n i s)) × (a' ≡ a) × (k' ≡ k)
Goes b q n xs (Blot i) o a a' k k' = (o ≡ marking (blotting n i)) × (a' ≡ a) × (k' ≡ k)
Goes b q n xs Wipe o a a' k k' = (o ≡ Ok None) × (a' ≡ a) × (k' ≡ k)
Goes b q n xs Read o a a' k k' = (r : Result Counts Fault) × (o ≡ reading r) × Passes b xs a a' k k' r

-- ---- whole runs

abbrev pub made_calls : {C : Type 0} → List (Step C) → List Call
made_calls [] = []
made_calls (s ∷ ss) = s.call ∷ made_calls ss

-- the cells after the calls, one after another
abbrev pub lefts : (q n : ℕ) → List Call → List ℕ → List ℕ
lefts q n [] xs = xs
lefts q n (c ∷ cs) xs = lefts q n cs (left q n c xs)

-- how a call goes after the calls h: as it goes on the marks then standing
abbrev pub GoesAfter : Codebook → (q n : ℕ) → List Call → Call → Outcome → (a a' k k' : List ℕ) → Type 0
GoesAfter b q n h c o a a' k k' = (xs : List ℕ) × Marks q n h xs × Goes b q n xs c o a a' k k'

-- the steps, made one after another after the calls h, have the outcomes os, and each call finds the answer and working cells as the one before left them
abbrev pub Worked : {C : Type 0} → (C → Codebook) → (q n : ℕ) → List Call → List (Step C) → List Outcome → (a a' k k' : List ℕ) → Type 0
Worked book q n h [] os a a' k k' = (os ≡ []) × (a' ≡ a) × (k' ≡ k)
Worked book q n h (s ∷ ss) os a a' k k' =
    (o : Outcome) × (rest : List Outcome) × (b : List ℕ) × (l : List ℕ)
    × (os ≡ o ∷ rest)
    × GoesAfter (book s.code.now) q n h s.call o a b k l
    × Worked book q n (h ++ (s.call ∷ [])) ss rest b a' l k'

-- there has to be one outcome for each step
abbrev pub noting : (steps outcomes : ℕ) → Verdict
noting steps outcomes = cond (outcomes == steps) (Ok tt) (Err (Sheet (refusal WrongTray 0)))

-- a run of the steps over the cells xs leaves ys; os and os' are the outcomes before and after
abbrev pub runs : Verdict → {C : Type 0} → (C → Codebook) → (q n : ℕ) → List (Step C) → (xs ys : List ℕ) → (os os' : List Outcome) → (a a' k k' : List ℕ) → Type 0
runs (Err f) book q n ss xs ys os os' a a' k k' = (ys ≡ xs) × (os' ≡ os) × (a' ≡ a) × (k' ≡ k)
runs (Ok u) book q n ss xs ys os os' a a' k k' =
    (ys ≡ lefts q n (made_calls ss) xs)
    × ((h : List Call) → Marks q n h (take n xs) → Marks q n (h ++ made_calls ss) (take n ys) × Worked book q n h ss os' a a' k k')

-- ---- the whole of a sheet's work, from its opening on

-- the sheet is opened over the cells xs for q symbols and n places, and the steps leave ys
abbrev pub works : Verdict → {C : Type 0} → (C → Codebook) → (q n : ℕ) → List (Step C) → (xs ys : List ℕ) → (os os' : List Outcome) → (a a' k k' : List ℕ) → Type 0
works (Err f) book q n ss xs ys os os' a a' k k' = (ys ≡ xs) × (os' ≡ os) × (a' ≡ a) × (k' ≡ k)
works (Ok u) book q n ss xs ys os os' a a' k k' = Marks q n (made_calls ss) ys × Worked book q n [] ss os' a a' k k'
