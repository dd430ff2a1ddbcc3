-- What a whole job prints: its lines, the code that its first line names, and the transcript of the others. Assumes nothing.
use Rattle.std.specs.Prelude.{◌≡◌, ℕ, cond, List, [], ◌∷◌, ◌++◌, take, replicate, Ok, Err, Result, ◌==◌, bit_xor}
use Rattle.alphabet.specs.Remainders.{plus_mod, times_mod}
use Rattle.algebra.specs.Grids.{grids, laid}
use Rattle.code.specs.declared.refusals.Refusal.{Refusal}
use Rattle.code.specs.Codes.{Codebook, Layout}
use Rattle.lines.specs.declared.names.Name.{Name}
use Rattle.lines.specs.declared.names.Name.TheVariants.{Trip, Fare, Shift}
use Rattle.lines.specs.Fields.{onto}
use Rattle.lines.specs.Names.{named}
use Rattle.repetition.specs.Repeats.{repeats, first}
use Rattle.sum.specs.Balance.{balances, but_last}
use Rattle.table.specs.Tables.{generator, tables, front}
use Rattle.job.specs.declared.faults.Fault.TheVariants.{Text}
use Rattle.job.specs.Answers.{printed}
use Rattle.job.specs.Transcripts.{Transcript}

-- ---- the lines of a job

-- the parts that byte 10 ends, and what follows the last end, if bytes do
abbrev pub pieces : List ℕ → List (List ℕ)
pieces [] = []
pieces (b ∷ bs) = cond (b == 10) ([] ∷ pieces bs) (onto b (pieces bs))

-- an empty input is one empty line
abbrev pub or_empty : List (List ℕ) → List (List ℕ)
or_empty [] = [] ∷ []
or_empty (l ∷ ls) = l ∷ ls

-- the first 60,000 lines of the first 4,000,000 bytes
abbrev pub job_lines : List ℕ → List (List ℕ)
job_lines input = take 60000 (or_empty (pieces (take 4000000 input)))

-- ---- the codes that a first line may name

-- the rows 101, 111, 110 and 011 of the binary table of length 7, and behind them what a table leaves unused
abbrev pub trip_rows : List ℕ
trip_rows = (1 ∷ 0 ∷ 1 ∷ 1 ∷ 1 ∷ 1 ∷ 1 ∷ 1 ∷ 0 ∷ 0 ∷ 1 ∷ 1 ∷ []) ++ replicate 116 0

-- TRIP over Bits: columns of the table, rows sum 4. FARE over Digits: columns repetition 3, rows sum 4. SHIFT over Sixteen: columns repetition 2 times sum 3, rows repetition 2
abbrev pub book : Name → Codebook
book Trip = grids (tables (generator 2 (plus_mod 2) (times_mod 2) 4 3 trip_rows)) (balances (plus_mod 2) 2 4)
book Fare = grids (repeats 10 3) (balances (plus_mod 10) 10 4)
book Shift = grids (grids (repeats 16 2) (balances bit_xor 16 3)) (repeats 16 2)

abbrev pub plan : Name → Layout
plan Trip = laid (balances (plus_mod 2) 2 4) (front 4) (but_last 4)
plan Fare = laid (balances (plus_mod 10) 10 4) first (but_last 4)
plan Shift = laid (repeats 16 2) (laid (balances bit_xor 16 3) first (but_last 3)) first

-- ---- the whole job

-- after the first line: the transcript of the other lines on a new sheet of the code that it names, or its refusal alone
abbrev pub AfterFirst : Result Name Refusal → List (List ℕ) → List ℕ → Type 0
AfterFirst (Ok name) rest out = Transcript (book name) (plan name) [] 2 rest out
AfterFirst (Err e) rest out = out ≡ printed 1 (Err (Text e)) []

abbrev pub JobPrints : (input out : List ℕ) → Type 0
JobPrints input out = (line : List ℕ) × (rest : List (List ℕ)) × (job_lines input ≡ line ∷ rest) × AfterFirst (named line) rest out
