-- The bytes that a line's answer is printed as. Assumes nothing.
use Rattle.std.specs.Prelude.{ℕ, List, [], ◌∷◌, ◌++◌, Some, None, Ok, Err, codes, decimal, Option, Result}
use Rattle.std.specs.List.{flat_map}
use Rattle.code.specs.declared.cells.Counts.{Counts}
use Rattle.code.specs.declared.refusals.Refusal.{Refusal}
use Rattle.code.specs.Refusals.{number}
use Rattle.sheet.specs.Faults.{layer as sheet_layer, refused as sheet_refused}
use Rattle.job.specs.declared.faults.Fault.{Fault}
use Rattle.job.specs.declared.faults.Fault.TheVariants.{Text, Sheet}

abbrev pub layer : Fault → List ℕ
layer (Text e) = codes "text"
layer (Sheet f) = sheet_layer f

abbrev pub refused : Fault → Refusal
refused (Text e) = e
refused (Sheet f) = sheet_refused f

-- how a line goes: nothing after an accepted put, blot or wipe, the counts after an accepted read
abbrev pub Outcome : Type 0
Outcome = Result (Option Counts) Fault

-- a tab, byte 9, and a number in base ten
abbrev pub tabbed : ℕ → List ℕ
tabbed n = 9 ∷ decimal n

-- what line i prints: NO, i, the layer, the refusal's number and its place; or WORD, e, s and the message m; or nothing. A printed line ends with byte 10
abbrev pub printed : ℕ → Outcome → List ℕ → List ℕ
printed i (Err f) m = codes "NO" ++ (9 ∷ (decimal i ++ (9 ∷ (layer f ++ (9 ∷ (decimal (number (refused f).reason) ++ (9 ∷ (decimal (refused f).place ++ (10 ∷ [])))))))))
printed i (Ok None) m = []
printed i (Ok (Some c)) m = codes "WORD" ++ (9 ∷ (decimal c.wrong ++ (9 ∷ (decimal c.blank ++ (flat_map tabbed m ++ (10 ∷ []))))))
