-- Codes with the same words, and reads that agree. Assumes nothing.
use Rattle.std.specs.Prelude.{◌≡◌, ℕ, List, Ok, Err, Result}
use Rattle.code.specs.declared.cells.Counts.{Counts}
use Rattle.code.specs.declared.refusals.Refusal.{Refusal}
use Rattle.code.specs.Codes.{Codebook}

-- the same symbols, length, distance and words; the working cells may differ
pub record Same (s t : Codebook) : Type 0 where
  pub symbols : s.q ≡ t.q
  pub long : s.n ≡ t.n
  pub distance : s.d ≡ t.d
  pub to : (w : List ℕ) → s.Word w → t.Word w
  pub from : (w : List ℕ) → t.Word w → s.Word w

-- two reads agree: both hand over one word with the same counts, or both give the same refusal
abbrev pub Agree : (a b : List ℕ) → Result Counts Refusal → Result Counts Refusal → Type 0
Agree a b (Ok c) (Ok e) = (c ≡ e) × (a ≡ b)
Agree a b (Ok c) (Err e) = ⊥
Agree a b (Err c) (Ok e) = ⊥
Agree a b (Err c) (Err e) = c ≡ e
