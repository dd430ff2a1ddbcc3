-- A sheet as its contracts see it: its symbols, its places and the cells that it was lent, of which the first are its marks. Assumes nothing.
use Rattle.std.specs.Prelude.{◌≡◌, ℕ, List, length, take}
use Rattle.std.specs.Borrow.{GName}
use Rattle.code.specs.Codes.{Codebook}
use Rattle.sheet.specs.declared.calls.Call.{Call}
use Rattle.sheet.specs.declared.calls.Call.TheVariants.{Wipe}
use Rattle.sheet.specs.declared.marks.Sheet.{Sheet}
use Rattle.sheet.specs.Runs.{opened, left}

-- how many symbols its code has
abbrev pub symbols : Sheet → ℕ
symbols s = s.q

-- how many places it has
abbrev pub places : Sheet → ℕ
places s = s.n

-- all cells that it was lent, also those past its places
abbrev pub all_cells : Sheet → List ℕ
all_cells s = s.cells.now

-- whose cells they are
abbrev pub lender : Sheet → GName
lender s = s.cells.ghost_name

-- what stands on it
abbrev pub marks : Sheet → List ℕ
marks s = take (places s) (all_cells s)

-- the sheet s, right after its opening over the cells xs for a code with the codebook b
pub record Opened (b : Codebook) (xs : List ℕ) (s : Sheet) : Type 0 where
  pub q : symbols s ≡ b.q
  pub n : places s ≡ opened b.n b.working (length xs)
  pub wiped : all_cells s ≡ left (symbols s) (places s) Wipe xs

-- t is the sheet s with other marks: it has as many symbols and places, and its cells are the same lender's
pub record Same (s t : Sheet) : Type 0 where
  pub q : symbols t ≡ symbols s
  pub n : places t ≡ places s
  pub lent : lender t ≡ lender s

-- the sheet s becomes t by the call
pub record Becomes (call : Call) (s t : Sheet) : Type 0 where
  pub same : Same s t
  pub leaves : all_cells t ≡ left (symbols s) (places s) call (all_cells s)
