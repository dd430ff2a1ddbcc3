-- One pass over received cells: what the symbols that could be read add up to, and where a blank stands. Assumes nothing.
use Rattle.std.specs.Prelude.{◌≡◌, ℕ, ◌<◌, cond, List, ◌==◌, Some, None, slice_index}
use Rattle.alphabet.specs.Sums.{sum, added}
use Rattle.code.specs.Cells.{blank, faint}
use Rattle.sum.specs.declared.scans.Scan.{Scan}

-- a blank counts as nothing
abbrev pub shown : ℕ → ℕ
shown x = cond (x == blank) 0 x

-- what a scan found: the sum of the symbols, the number of the blanks, and where the last blank stands
pub record Tally : Type 0 where
  pub total : ℕ
  pub blanks : ℕ
  pub hole : ℕ

abbrev pub tally : Scan → Tally
tally s = record { total = s.total; blanks = elim s.hole [ None ↦ 0 | Some h ↦ 1 ]; hole = elim s.hole [ None ↦ 0 | Some h ↦ h ] }

-- what s tells of the first i cells of r
pub record Scanned (add : ℕ → ℕ → ℕ) (r : List ℕ) (i : ℕ) (s : Tally) : Type 0 where
  pub total : s.total ≡ added add i (λ j. shown (slice_index r j))
  pub blanks : s.blanks ≡ sum i (λ j. faint (slice_index r j))
  -- where there is a blank, the last one stands at the hole
  pub inside : 0 < s.blanks → s.hole < i
  pub hole : 0 < s.blanks → slice_index r s.hole ≡ blank
