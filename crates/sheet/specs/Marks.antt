-- The marks standing on a sheet of n places for q symbols, told by looking back through the calls that were made since it was opened. Assumes nothing.
use Rattle.std.specs.Prelude.{◌≡◌, ℕ, ◌<◌, List, [], ◌∷◌, ◌++◌, length, slice_index}
use Rattle.code.specs.Cells.{blank}
use Rattle.sheet.specs.declared.calls.Call.{Call}
use Rattle.sheet.specs.declared.calls.Call.TheVariants.{Put, Blot, Wipe, Read}

-- the call is an accepted put or blot at the place p, and writes v there
abbrev pub Writes : (q n : ℕ) → Call → (p v : ℕ) → Type 0
Writes q n (Put i s) p v = (i ≡ p) × (i < n) × (s < q) × (v ≡ s)
Writes q n (Blot i) p v = (i ≡ p) × (i < n) × (v ≡ blank)
Writes q n Wipe p v = ⊥
Writes q n Read p v = ⊥

-- the call is no wipe, and no accepted put or blot at p
abbrev pub Spares : (q n p : ℕ) → Call → Type 0
Spares q n p (Put i s) = (v : ℕ) → Writes q n (Put i s) p v → ⊥
Spares q n p (Blot i) = (v : ℕ) → Writes q n (Blot i) p v → ⊥
Spares q n p Wipe = ⊥
Spares q n p Read = Unit {0}

-- none of the calls is a wipe, or an accepted put or blot at p
abbrev pub Quiet : (q n p : ℕ) → List Call → Type 0
Quiet q n p [] = Unit {0}
Quiet q n p (c ∷ cs) = Spares q n p c × Quiet q n p cs

-- v stands at p after the calls h: what the latest accepted put or blot there wrote since the last wipe, or a blank where there is none since that wipe, or since the opening
pub data Stands (q n : ℕ) (h : List Call) (p v : ℕ) : Type 0 where
  written : (before : List Call) (c : Call) (after : List Call) → h ≡ before ++ (c ∷ after) → Writes q n c p v → Quiet q n p after → Stands q n h p v
  wiped : (before after : List Call) → h ≡ before ++ (Wipe ∷ after) → Quiet q n p after → v ≡ blank → Stands q n h p v
  unmarked : Quiet q n p h → v ≡ blank → Stands q n h p v

-- the cells are the marks standing after the calls h
pub record Marks (q n : ℕ) (h : List Call) (cells : List ℕ) : Type 0 where
  pub sized : length cells ≡ n
  pub stands : (p : ℕ) → p < n → Stands q n h p (slice_index cells p)

-- whatever calls were made before: where the cells xs are the marks standing after them, the cells ys are the marks standing after one call more
abbrev pub Marked : (q n : ℕ) → Call → (xs ys : List ℕ) → Type 0
Marked q n c xs ys = (h : List Call) → Marks q n h xs → Marks q n (h ++ (c ∷ [])) ys

-- at each place one mark stands, and so the marks standing are one row of cells
abbrev pub OneRowStands : Type 0
OneRowStands = (q n : ℕ) (h : List Call) (xs ys : List ℕ) → Marks q n h xs → Marks q n h ys → xs ≡ ys
