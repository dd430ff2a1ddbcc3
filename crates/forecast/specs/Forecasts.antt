-- What the cost of received cells against the printed word foretells of every read of them. Assumes nothing.
use Rattle.std.specs.Prelude.{◌≡◌, ℕ, cond, List, length, Ok, Err, Result, ◌==◌, nat_lt}
use Rattle.code.specs.declared.cells.Counts.{Counts}
use Rattle.code.specs.declared.refusals.Reason.TheVariants.{Oversize, Misfit, Lost}
use Rattle.code.specs.declared.refusals.Refusal.{Refusal}
use Rattle.code.specs.Cells.{wrongs, blanks, cost}
use Rattle.code.specs.Codes.{Codebook, Layout, Carries, taken}
use Rattle.code.specs.Refusals.{refusal}
use Rattle.code.specs.Calls.{read_checks, Reads}
use Rattle.forecast.specs.declared.Forecast.{Forecast}
use Rattle.forecast.specs.declared.Forecast.TheVariants.{Returns, GetsLost, Uncertain}

-- below the distance the word returns, at the distance it is lost, and above it nothing is certain
abbrev pub forecast : (cost d : ℕ) → Forecast
forecast c d = cond (nat_lt c d) Returns (cond (c == d) GetsLost Uncertain)

-- sizes first: a code that is too long, a printed word or received cells of another length
abbrev pub foreseen : (n d : ℕ) (w r : List ℕ) → Result Forecast Refusal
foreseen n d w r =
    cond (nat_lt 4096 n) (Err (refusal Oversize 0))
    (cond (length w == n)
    (cond (length r == n) (Ok (forecast (cost r w) d)) (Err (refusal Misfit 0)))
    (Err (refusal Misfit 0)))

-- what a read of r left and answered: the printed word w with its true counts, and in it any message that w carries
pub record Returned (l : Layout) (w r a' : List ℕ) (res : Result Counts Refusal) : Type 0 where
  pub word : a' ≡ w
  pub counts : res ≡ Ok (record { wrong = wrongs r w; blank = blanks r })
  pub message : (m : List ℕ) → length m ≡ l.k → Carries l m w → taken l a' ≡ m

abbrev pub Promise : Forecast → Layout → (w r a a' : List ℕ) → Result Counts Refusal → Type 0
Promise Returns l w r a a' res = Returned l w r a' res
Promise GetsLost l w r a a' res = (res ≡ Err (refusal Lost 0)) × (a' ≡ a)
Promise Uncertain l w r a a' res = Unit {0}

-- the forecast comes true in every read of r that its sizes and cells let pass, with whatever answer and working cells
abbrev pub Foretells : Codebook → Layout → (w r : List ℕ) → Forecast → Type 0
Foretells b l w r f =
    (a a' k k' : List ℕ) (res : Result Counts Refusal)
    → read_checks b r a k ≡ Ok tt → Reads b r a a' k k' res → Promise f l w r a a' res
