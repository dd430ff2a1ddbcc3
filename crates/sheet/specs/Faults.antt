-- Faults: the layer that gave a refusal, and the refusal whole. Assumes nothing.
use Rattle.std.specs.Prelude.{ℕ, List, codes}
use Rattle.code.specs.declared.refusals.Refusal.{Refusal}
use Rattle.sheet.specs.declared.faults.Fault.{Fault}
use Rattle.sheet.specs.declared.faults.Fault.TheVariants.{Code, Sheet}

abbrev pub layer : Fault → List ℕ
layer (Code e) = codes "code"
layer (Sheet e) = codes "sheet"

abbrev pub refused : Fault → Refusal
refused (Code e) = e
refused (Sheet e) = e
