-- What the read of a line gives, and what a try of a row tells by it. Assumes nothing.
use Rattle.std.proofs.Common.{◌≡◌, ℕ, ◌+◌, ◌*◌, ◌≤◌, true, false, ltb, List, length, get_or, Option, Some, None, Ok, Err, Result, sym, subst, arith}
use Rattle.std.specs.Option.{is_some}
use Rattle.std.specs.Result.{result_ok}
use Rattle.std.proofs.lemmas.Bool.{false≢true}
use Rattle.code.specs.declared.cells.Counts.{Counts}
use Rattle.code.specs.declared.refusals.Refusal.{Refusal}
use Rattle.code.specs.Codes.{Codebook}
use Rattle.code.specs.Calls.{found, Reads}
use Rattle.algebra.specs.Weights.{cut, heft}
use Rattle.algebra.specs.Parts.{Ready, Taken, Tried}
use Rattle.algebra.specs.Readings.{Reached, Roomy}
use Rattle.algebra.proofs.Lines.{read_passes, tried, tried_none}

-- ---- a read, and none where there is none
none_else : (s : Codebook) (r a y : List ℕ) (res : Result Counts Refusal) (o : Option Counts) → found s r a y res → o ≡ result_ok res → Reached s r y o
none_else s r a y (Ok c) o h e = subst (λ (x : Option Counts). Reached s r y x) (sym e) h
none_else s r a y (Err x) o h e = subst (λ (x : Option Counts). Reached s r y x) (sym e) h.1

pub read_reaches : {s : Codebook} {r a a' k k' : List ℕ} {res : Result Counts Refusal} {o : Option Counts} → Ready s (length r) (length k) → length a ≡ length r → Taken s.q r
    → Reads s r a a' k k' res → o ≡ result_ok res → Reached s r a' o
read_reaches {s} {r} {a} {a'} {k} {k'} {res} {o} ready e taken h f = none_else s r a a' res o (read_passes s r a a' k k' res ready e taken h) f

-- a try of the row x at t: its line was read, and the word weighs h
pub tried_read : (s : Codebook) (d n t : ℕ) (ws x line word : List ℕ) (o : Option Counts) (h m : ℕ) → s.n ≡ n → line ≡ cut n (λ j. get_or ws j 0) x t
    → h ≡ heft n d (λ j. get_or ws j 0) x word → m ≡ s.d → Reached s line word o → is_some o ≡ true → Tried s d ws x t word (ltb h (d * m))
tried_read s d n t ws x line word (Some c) h m z f e k w i = tried s d n t ws x line word c h m z f e k w
tried_read s d n t ws x line word None h m z f e k w i = absurd (false≢true i)

-- or there was no word to read
pub tried_unread : (s : Codebook) (d n t : ℕ) (ws x line word : List ℕ) (o : Option Counts) → s.n ≡ n → line ≡ cut n (λ j. get_or ws j 0) x t
    → Reached s line word o → is_some o ≡ false → Tried s d ws x t word false
tried_unread s d n t ws x line word (Some c) z f w i = absurd (false≢true (sym i))
tried_unread s d n t ws x line word None z f w i = tried_none s d n t ws x line z f w

-- the working cells that are left of what is lent
pub ready_of : (s : Codebook) (m k l : ℕ) → m ≡ s.n → l ≤ k + (s.n + s.n) → Roomy s l → Ready s m k
ready_of s m k l e f h = record { long = sym e; short = omega (arith, e, h.short); room = omega (arith, f, h.room); roomy = h.roomy; symbols = h.symbols }
