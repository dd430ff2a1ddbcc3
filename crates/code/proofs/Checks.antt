-- A call whose checks pass meets its contract by what it does then. Assumes nothing.
use Rattle.std.proofs.Common.{◌≡◌, ℕ, Bool, List, Ok, Result, refl, subst}
use Rattle.code.specs.declared.cells.Content.{Content}
use Rattle.code.specs.declared.cells.Content.TheVariants.{Word, Received}
use Rattle.code.specs.declared.cells.Counts.{Counts}
use Rattle.code.specs.declared.refusals.Refusal.{Refusal}
use Rattle.code.specs.Cells.{good, zeroed}
use Rattle.code.specs.Codes.{Codebook, Layout, Carries, taken}
use Rattle.code.specs.Refusals.{Verdict, read_sizing, judge_sizing, encode_sizing, take_sizing, clean, then}
use Rattle.code.specs.Calls.{cleared, reads, found, Reads, judges, judged, Judges, encodes, Encodes, takes, TakesOut}

-- what holds past two checks, where both pass
pub both : (v w : Verdict) (P : Verdict → Type 0) → Ok tt ≡ v → Ok tt ≡ w → P (Ok tt) → P (then v w)
both v w P ev ew p = subst (λ (x : Verdict). P (then x w)) ev (subst P ew p)

pub emptied : (v : Verdict) (m : ℕ) (k k' : List ℕ) → Ok tt ≡ v → k' ≡ zeroed m k → k' ≡ cleared v m k
emptied v m k k' ev e = subst (λ (x : Verdict). k' ≡ cleared x m k) ev e

pub at_size : (t : Content) (q p : ℕ) (xs : List ℕ) → p ≡ q → Ok tt ≡ clean (good t p) xs → Ok tt ≡ clean (good t q) xs
at_size t q p xs e o = subst (λ (x : ℕ). ◌≡◌ {A = Verdict} (Ok tt) (clean (good t x) xs)) e o

-- p is the number of symbols as the alphabet answers it
pub reads_passed : {b : Codebook} {r a a' k k' : List ℕ} {res : Result Counts Refusal} {p : ℕ} → p ≡ b.q
    → Ok tt ≡ read_sizing b.n b.working r a k
    → Ok tt ≡ clean (good Received p) r → k' ≡ zeroed b.working k → found b r a a' res → Reads b r a a' k k' res
reads_passed {b} {r} {a} {a'} {k} {k'} {res} {p} e size cell work answer =
    record { work = emptied _ b.working k k' size work; answer = both _ _ (λ (v : Verdict). reads v b r a a' res) size (at_size Received b.q p r e cell) answer }

pub judges_passed : {b : Codebook} {r k k' : List ℕ} {res : Result Bool Refusal} {p : ℕ} → p ≡ b.q
    → Ok tt ≡ judge_sizing b.n b.working r k
    → Ok tt ≡ clean (good Word p) r → k' ≡ zeroed b.working k → judged b r res → Judges b r k k' res
judges_passed {b} {r} {k} {k'} {res} {p} e size cell work answer =
    record { work = emptied _ b.working k k' size work; answer = both _ _ (λ (v : Verdict). judges v b r res) size (at_size Word b.q p r e cell) answer }

pub encodes_passed : {b : Codebook} {l : Layout} {m a a' k k' : List ℕ} {p : ℕ} → p ≡ b.q
    → Ok tt ≡ encode_sizing b.n l.k b.working m a k
    → Ok tt ≡ clean (good Word p) m → k' ≡ zeroed b.working k → b.Word a' → Carries l m a' → Encodes b l m a a' k k' (Ok tt)
encodes_passed {b} {l} {m} {a} {a'} {k} {k'} {p} e size cell work word carries =
    record { work = emptied _ b.working k k' size work; answer = both _ _ (λ (v : Verdict). encodes v b l m a a' (Ok tt)) size (at_size Word b.q p m e cell) (refl, word, carries) }

pub takes_passed : {b : Codebook} {l : Layout} {r a a' : List ℕ} {p : ℕ} → p ≡ b.q
    → Ok tt ≡ take_sizing b.n l.k b.working r a
    → Ok tt ≡ clean (good Word p) r → a' ≡ taken l r → TakesOut b l r a a' (Ok tt)
takes_passed {b} {l} {r} {a} {a'} {p} e size cell copied =
    record { answer = both _ _ (λ (v : Verdict). takes v l r a a' (Ok tt)) size (at_size Word b.q p r e cell) (refl, copied) }

-- ---- a call that checks its sizes and hands the rest on: what it hands on has checked the cells
pub reads_sized : {b : Codebook} {r a a' k k' : List ℕ} {res : Result Counts Refusal}
    → Ok tt ≡ read_sizing b.n b.working r a k → k' ≡ zeroed b.working k
    → reads (clean (good Received b.q) r) b r a a' res → Reads b r a a' k k' res
reads_sized {b} {r} {a} {a'} {k} {k'} {res} size work answer =
    record { work = emptied _ b.working k k' size work; answer = subst (λ (v : Verdict). reads (then v (clean (good Received b.q) r)) b r a a' res) size answer }

pub judges-sized : {b : Codebook} {r k k' : List ℕ} {res : Result Bool Refusal}
    → Ok tt ≡ judge_sizing b.n b.working r k → k' ≡ zeroed b.working k
    → judges (clean (good Word b.q) r) b r res → Judges b r k k' res
judges-sized {b} {r} {k} {k'} {res} size work answer =
    record { work = emptied _ b.working k k' size work; answer = subst (λ (v : Verdict). judges (then v (clean (good Word b.q) r)) b r res) size answer }

pub encodes-sized : {b : Codebook} {l : Layout} {m a a' k k' : List ℕ} {res : Verdict}
    → Ok tt ≡ encode_sizing b.n l.k b.working m a k → k' ≡ zeroed b.working k
    → encodes (clean (good Word b.q) m) b l m a a' res → Encodes b l m a a' k k' res
encodes-sized {b} {l} {m} {a} {a'} {k} {k'} {res} size work answer =
    record { work = emptied _ b.working k k' size work; answer = subst (λ (v : Verdict). encodes (then v (clean (good Word b.q) m)) b l m a a' res) size answer }
