-- What the lines of a job print, line after line, on one sheet of a code with the codebook b and the layout l. Assumes nothing.
use Rattle.std.specs.Prelude.{◌≡◌, ℕ, ◌+◌, ◌≤◌, List, [], ◌∷◌, ◌++◌, Some, None, Ok, Err, Result}
use Rattle.code.specs.declared.cells.Counts.{Counts}
use Rattle.code.specs.declared.refusals.Reason.TheVariants.{Lost}
use Rattle.code.specs.declared.refusals.Refusal.{Refusal}
use Rattle.code.specs.Codes.{Codebook, Layout, taken}
use Rattle.code.specs.Calls.{Within, Beyond}
use Rattle.code.specs.Refusals.{refusal, Verdict as Refused}
use Rattle.sheet.specs.declared.calls.Call.{Call}
use Rattle.sheet.specs.declared.calls.Call.TheVariants.{Put, Blot, Wipe, Read}
use Rattle.sheet.specs.declared.faults.Fault.TheVariants.{Code}
use Rattle.sheet.specs.Marks.{Marks}
use Rattle.sheet.specs.Runs.{Verdict, putting, blotting}
use Rattle.lines.specs.Calls.{asked}
use Rattle.job.specs.declared.faults.Fault.TheVariants.{Text, Sheet}
use Rattle.job.specs.Answers.{Outcome, printed}

-- a sheet of n places for q symbols is one of the code, and the answer, message and working cells are as many as the code asks for
pub record Equipped (b : Codebook) (l : Layout) (q n words messages room : ℕ) : Type 0 where
  pub symbols : q ≡ b.q
  pub places : n ≡ b.n
  pub short : b.n ≤ 4096
  pub few : b.working ≤ 16384
  pub whole : words ≡ b.n
  pub carried : messages ≡ l.k
  pub roomy : b.working ≤ room

-- a refusal of the code, as the sheet carries it
abbrev pub lifted : Refused → Verdict
lifted (Ok u) = Ok u
lifted (Err e) = Err (Code e)

-- the verdict on the marks xs, and the message m: the one word within reach with its counts and what it carries, or lost where there is none
abbrev pub Judged : Codebook → Layout → List ℕ → Result Counts Refusal → List ℕ → Type 0
Judged b l xs (Ok c) m = (w : List ℕ) × Within b xs w c × (m ≡ taken l w)
Judged b l xs (Err e) m = (e ≡ refusal Lost 0) × Beyond b xs

abbrev pub marking : Verdict → Outcome
marking (Ok u) = Ok None
marking (Err f) = Err (Sheet f)

abbrev pub reading : Result Counts Refusal → Outcome
reading (Ok c) = Ok (Some c)
reading (Err e) = Err (Sheet (Code e))

-- how a call goes while the marks xs stand
abbrev pub Goes : Codebook → Layout → List ℕ → Call → Outcome → List ℕ → Type 0
Goes b l xs (Put p s) r m = r ≡ marking (putting b.q b.n p s)
Goes b l xs (Blot p) r m = r ≡ marking (blotting b.n p)
Goes b l xs Wipe r m = r ≡ Ok None
Goes b l xs Read r m = (v : Result Counts Refusal) × (r ≡ reading v) × Judged b l xs v m

-- how a line goes after the calls h: garbled, or as its call goes on the marks then standing
abbrev pub LineGoes : Codebook → Layout → List Call → Result Call Refusal → Outcome → List ℕ → Type 0
LineGoes b l h (Err e) r m = r ≡ Err (Text e)
LineGoes b l h (Ok c) r m = (xs : List ℕ) × Marks b.q b.n h xs × Goes b l xs c r m

-- the calls made after a line
abbrev pub noted : List Call → Result Call Refusal → List Call
noted h (Ok c) = h ++ (c ∷ [])
noted h (Err e) = h

-- what the lines print, the first of them number i, after the calls h
abbrev pub Transcript : Codebook → Layout → List Call → ℕ → List (List ℕ) → List ℕ → Type 0
Transcript b l h i [] out = out ≡ []
Transcript b l h i (line ∷ ls) out =
    (r : Outcome) × (m : List ℕ) × (rest : List ℕ)
    × LineGoes b l h (asked line) r m
    × (out ≡ printed i r m ++ rest)
    × Transcript b l (noted h (asked line)) (i + 1) ls rest
