-- A survey of all words of a table against received cells: the least weight, and a cheapest word. Assumes nothing.
use Rattle.std.specs.Prelude.{◌≡◌, ℕ, ◌+◌, ◌≤◌, List, length}
use Rattle.code.specs.declared.cells.Counts.{Counts}
use Rattle.code.specs.Cells.{wrongs, blanks, cost}
use Rattle.table.specs.declared.listing.Survey.{Survey}
use Rattle.table.specs.Tables.{Generator, Tabled, least}

-- w is a word, c counts what differs in it, and no word costs less
pub record Nearest (s : Generator) (r w : List ℕ) (c : Counts) : Type 0 where
  pub tabled : Tabled s w
  pub wrong : c.wrong ≡ wrongs r w
  pub blank : c.blank ≡ blanks r
  pub few : c.wrong + c.blank ≤ length r
  pub cheapest : (v : List ℕ) → Tabled s v → cost r w ≤ cost r v

pub record Surveyed (s : Generator) (r w : List ℕ) (y : Survey) : Type 0 where
  pub distance : y.distance ≡ least s
  pub nearest : Nearest s r w y.counts
