-- What each call of a code answers, and what it leaves in every cell that it is lent. Assumes nothing.
use Rattle.std.specs.Prelude.{◌≡◌, ℕ, ◌<◌, ◌≤◌, min, Bool, cond, T, ◌≢◌, List, Some, None, Ok, Err, Option, Result, nat_lt}
use Rattle.code.specs.declared.cells.Counts.{Counts}
use Rattle.code.specs.declared.cells.Content.TheVariants.{Word, Received}
use Rattle.code.specs.declared.refusals.Reason.TheVariants.{Lost}
use Rattle.code.specs.declared.refusals.Refusal.{Refusal}
use Rattle.code.specs.Cells.{cost, wrongs, blanks, good, zeroed}
use Rattle.code.specs.Codes.{Codebook, Layout, Carries, taken}
use Rattle.code.specs.Refusals.{refusal, Verdict, read_sizing, judge_sizing, encode_sizing, take_sizing, clean, then}

-- lengths and distances are answered up to 4,096, and as 4,097 above that
abbrev pub answered : ℕ → ℕ
answered n = min n 4097

-- working cells are answered up to 16,384, and as 16,385 above that or where the code is longer than 4,096
abbrev pub answered_working : Codebook → ℕ
answered_working b = cond (nat_lt 4096 b.n) 16385 (min b.working 16385)

-- the place of message symbol i is absent where there is no such symbol or the code is longer than 4,096
abbrev pub answered_place : Codebook → Layout → ℕ → Option ℕ
answered_place b l i = cond (nat_lt 4096 b.n) None (cond (nat_lt i l.k) (Some (l.place i)) None)

-- w is the one word within reach of the received cells r, and c counts what differs
pub record Within (b : Codebook) (r w : List ℕ) (c : Counts) : Type 0 where
  pub word : b.Word w
  pub reach : cost r w < b.d
  pub wrong : c.wrong ≡ wrongs r w
  pub blank : c.blank ≡ blanks r
  pub others : (v : List ℕ) → b.Word v → v ≢ w → b.d < cost r v

-- no word is within reach of r
abbrev pub Beyond : Codebook → List ℕ → Type 0
Beyond b r = (v : List ℕ) → b.Word v → b.d ≤ cost r v

-- Each call checks its sizes, then its cells, and then does its work. A refusal comes out as it is, and leaves the answer cells as they were.
-- The working cells stay where a size is refused, and else the first of them, as many as the code has, end as zero.
-- a and a' are the answer cells before and after, k and k' the working cells.

abbrev pub cleared : Verdict → ℕ → List ℕ → List ℕ
cleared (Ok u) m k = zeroed m k
cleared (Err e) m k = k

-- ---- read

abbrev pub read_checks : Codebook → (r a k : List ℕ) → Verdict
read_checks b r a k = then (read_sizing b.n b.working r a k) (clean (good Received b.q) r)

-- past the checks: the one word within reach, or lost
abbrev pub found : Codebook → (r a a' : List ℕ) → Result Counts Refusal → Type 0
found b r a a' (Ok c) = Within b r a' c
found b r a a' (Err e) = (e ≡ refusal Lost 0) × Beyond b r × (a' ≡ a)

abbrev pub reads : Verdict → Codebook → (r a a' : List ℕ) → Result Counts Refusal → Type 0
reads (Err e) b r a a' res = (res ≡ Err e) × (a' ≡ a)
reads (Ok u) b r a a' res = found b r a a' res

pub record Reads (b : Codebook) (r a a' k k' : List ℕ) (res : Result Counts Refusal) : Type 0 where
  pub work : k' ≡ cleared (read_sizing b.n b.working r a k) b.working k
  pub answer : reads (read_checks b r a k) b r a a' res

-- ---- lawful

abbrev pub judge_checks : Codebook → (r k : List ℕ) → Verdict
judge_checks b r k = then (judge_sizing b.n b.working r k) (clean (good Word b.q) r)

-- past the checks: yes exactly where the cells are a word
abbrev pub judged : Codebook → List ℕ → Result Bool Refusal → Type 0
judged b r (Ok t) = (T t → b.Word r) × (b.Word r → T t)
judged b r (Err e) = ⊥

abbrev pub judges : Verdict → Codebook → List ℕ → Result Bool Refusal → Type 0
judges (Err e) b r res = res ≡ Err e
judges (Ok u) b r res = judged b r res

pub record Judges (b : Codebook) (r k k' : List ℕ) (res : Result Bool Refusal) : Type 0 where
  pub work : k' ≡ cleared (judge_sizing b.n b.working r k) b.working k
  pub answer : judges (judge_checks b r k) b r res

-- ---- encode

abbrev pub encode_checks : Codebook → Layout → (m a k : List ℕ) → Verdict
encode_checks b l m a k = then (encode_sizing b.n l.k b.working m a k) (clean (good Word b.q) m)

-- past the checks: the word that carries the message
abbrev pub encodes : Verdict → Codebook → Layout → (m a a' : List ℕ) → Verdict → Type 0
encodes (Err e) b l m a a' res = (res ≡ Err e) × (a' ≡ a)
encodes (Ok u) b l m a a' res = (res ≡ Ok tt) × b.Word a' × Carries l m a'

pub record Encodes (b : Codebook) (l : Layout) (m a a' k k' : List ℕ) (res : Verdict) : Type 0 where
  pub work : k' ≡ cleared (encode_sizing b.n l.k b.working m a k) b.working k
  pub answer : encodes (encode_checks b l m a k) b l m a a' res

-- ---- take-out

abbrev pub take_checks : Codebook → Layout → (r a : List ℕ) → Verdict
take_checks b l r a = then (take_sizing b.n l.k b.working r a) (clean (good Word b.q) r)

-- past the checks: the symbols at the message places
abbrev pub takes : Verdict → Layout → (r a a' : List ℕ) → Verdict → Type 0
takes (Err e) l r a a' res = (res ≡ Err e) × (a' ≡ a)
takes (Ok u) l r a a' res = (res ≡ Ok tt) × (a' ≡ taken l r)

pub record TakesOut (b : Codebook) (l : Layout) (r a a' : List ℕ) (res : Verdict) : Type 0 where
  pub answer : takes (take_checks b l r a) l r a a' res
