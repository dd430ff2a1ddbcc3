-- One step more of a run, and a run right after the opening. Assumes nothing.
use Rattle.std.proofs.Common.{◌≡◌, ℕ, ◌+◌, ◌<◌, ◌≤◌, Bool, true, false, cond, List, [], ◌∷◌, ◌++◌, length, get_or, take, drop, set, replicate, is_ok, Ok, sym, refl, ap, ◌∙◌, subst, append_assoc, append-nil, arith, length-append, length-drop, length-set}
use lib.ListN.{length-replicate}
use Rattle.std.proofs.lemmas.List.{take_more, take_more_set, take_all}
use Rattle.code.specs.Cells.{blank}
use Rattle.code.specs.Codes.{Codebook}
use Rattle.sheet.specs.declared.calls.Call.{Call}
use Rattle.sheet.specs.declared.calls.Call.TheVariants.{Put, Blot, Wipe, Read}
use Rattle.sheet.specs.declared.calls.Step.{Step}
use Rattle.sheet.specs.Marks.{Marks}
use Rattle.sheet.proofs.Openings.{opened_full, opening_fits}
use Rattle.sheet.specs.Runs.{opening, Verdict, Outcome, putting, blotting, made_calls, left, lefts, Goes, GoesAfter, Worked, runs, works}
use Rattle.sheet.specs.declared.marks.Sheet.{Sheet}
use Rattle.sheet.specs.Sheets.{symbols, places, all_cells, marks, Opened, Same, Becomes}
use Rattle.sheet.proofs.History.{marked, fresh}

-- what stays the same at two calls
pub same_on : (r s t : Sheet) → Same r s → Same s t → Same r t
same_on r s t a b = record { q = b.q ∙ a.q; n = b.n ∙ a.n; lent = b.lent ∙ a.lent }

lefts_more : (q n : ℕ) (cs : List Call) (c : Call) (xs : List ℕ) → lefts q n (cs ++ (c ∷ [])) xs ≡ left q n c (lefts q n cs xs)
lefts_more q n [] c xs = refl
lefts_more q n (d ∷ cs) c xs = lefts_more q n cs c (left q n d xs)

length-cond : (b : Bool) (xs ys : List ℕ) → length xs ≡ length ys → length (cond b xs ys) ≡ length ys
length-cond true xs ys e = e
length-cond false xs ys e = refl

length-left : (q n : ℕ) (c : Call) (xs : List ℕ) → n ≤ length xs → length (left q n c xs) ≡ length xs
length-left q n (Put i s) xs h = length-cond (is_ok (putting q n i s)) (set xs i s) xs (length-set xs i s)
length-left q n (Blot i) xs h = length-cond (is_ok (blotting n i)) (set xs i blank) xs (length-set xs i blank)
length-left q n Wipe xs h = omega (arith, length-append (replicate n blank) (drop n xs), length-replicate n blank, length-drop n xs)
length-left q n Read xs h = refl

length-lefts : (q n : ℕ) (cs : List Call) (xs : List ℕ) → n ≤ length xs → length (lefts q n cs xs) ≡ length xs
length-lefts q n [] xs h = refl
length-lefts q n (c ∷ cs) xs h =
    let one = length-left q n c xs h in
    length-lefts q n cs (left q n c xs) (omega arith) ∙ one

module _ {C : Type 0} (book : C → Codebook) where
  calls_more : (ss : List (Step C)) (s : Step C) → made_calls (ss ++ (s ∷ [])) ≡ made_calls ss ++ (s.call ∷ [])
  calls_more [] s = refl
  calls_more (t ∷ ss) s = ap (λ (cs : List Call). t.call ∷ cs) (calls_more ss s)

  worked_more : (q n : ℕ) (h : List Call) (ss : List (Step C)) (s : Step C) (os : List Outcome) (o : Outcome) (a b a' k l k' : List ℕ)
      → Worked book q n h ss os a b k l
      → GoesAfter (book s.code.now) q n (h ++ made_calls ss) s.call o b a' l k'
      → Worked book q n h (ss ++ (s ∷ [])) (os ++ (o ∷ [])) a a' k k'
  worked_more q n h [] s os o a b a' k l k' w g = (
    o,
    [],
    a',
    k',
    ap (λ (ps : List Outcome). ps ++ (o ∷ [])) w.0,
    subst (λ (x : List ℕ). GoesAfter (book s.code.now) q n h s.call o x a' k k') w.1
        (subst (λ (y : List ℕ). GoesAfter (book s.code.now) q n h s.call o b a' y k') w.2
        (subst (λ (e : List Call). GoesAfter (book s.code.now) q n e s.call o b a' l k') (append-nil h) g)),
    (refl, refl, refl),
  )
  worked_more q n h (t ∷ ss) s os o a b a' k l k' w g = (
    w.0,
    w.1 ++ (o ∷ []),
    w.2,
    w.3,
    ap (λ (ps : List Outcome). ps ++ (o ∷ [])) w.4,
    w.5,
    worked_more q n (h ++ (t.call ∷ [])) ss s w.1 o w.2 b a' w.3 l k' w.6
        (subst (λ (e : List Call). GoesAfter (book s.code.now) q n e s.call o b a' l k') (sym (append_assoc h (t.call ∷ []) (made_calls ss))) g),
  )

  -- one turn of a run: a call on the sheet as the steps before have left it
  Turn : (q n : ℕ) → Step C → Outcome → (ys zs b a' l k' : List ℕ) → Type 0
  Turn q n s o ys zs b a' l k' =
      (zs ≡ left q n s.call ys)
      × ((h : List Call) → Marks q n h (take n ys) → Marks q n (h ++ (s.call ∷ [])) (take n zs))
      × Goes (book s.code.now) q n (take n ys) s.call o b a' l k'

  runs-more : (q n : ℕ) (ss : List (Step C)) (s : Step C) (os₀ os : List Outcome) (o : Outcome) (xs ys zs a b a' k l k' : List ℕ)
      → runs (Ok tt) book q n ss xs ys os₀ os a b k l → Turn q n s o ys zs b a' l k'
      → runs (Ok tt) book q n (ss ++ (s ∷ [])) xs zs os₀ (os ++ (o ∷ [])) a a' k k'
  unfolding Turn
  runs-more q n ss s os₀ os o xs ys zs a b a' k l k' r t = (
    t.0 ∙ ap (left q n s.call) r.0 ∙ sym (lefts_more q n (made_calls ss) s.call xs) ∙ sym (ap (λ (cs : List Call). lefts q n cs xs) (calls_more ss s)),
    λ h m.
        let before = r.1 h m in (
          subst (λ (cs : List Call). Marks q n cs (take n zs)) (append_assoc h (made_calls ss) (s.call ∷ []) ∙ ap (λ (cs : List Call). h ++ cs) (sym (calls_more ss s))) (t.1 (h ++ made_calls ss) before.0),
          worked_more q n h ss s os o a b a' k l k' before.1 (take n ys, before.0, t.2),
        ),
  )

  pub one_step_more : (first s t : Sheet) → Same first s → (ss : List (Step C)) (i : ℕ) (step : Step C) → i < length ss → step ≡ get_or ss i step
      → (os₀ os : List Outcome) → i < length os → (o : Outcome) (a b a' k l k' : List ℕ)
      → runs (Ok tt) book (symbols first) (places first) (take i ss) (all_cells first) (all_cells s) os₀ (take i os) a b k l
      → Becomes step.call s t
      → Goes (book step.code.now) (symbols s) (places s) (marks s) step.call o b a' l k'
      → runs (Ok tt) book (symbols first) (places first) (take (i + 1) ss) (all_cells first) (all_cells t) os₀ (take (i + 1) (set os i o)) a a' k k'
  unfolding Turn
  one_step_more first s t same ss i step inside is os₀ os room o a b a' k l k' r becomes goes =
      let q : ℕ = symbols first in
      let n : ℕ = places first in
      let turn : Turn q n step o (all_cells s) (all_cells t) b a' l k' =
      subst (λ (y : ℕ). Turn q y step o (all_cells s) (all_cells t) b a' l k') same.n
      (subst (λ (x : ℕ). Turn x (places s) step o (all_cells s) (all_cells t) b a' l k') same.q
      (becomes.leaves, λ h m. marked (symbols s) (places s) h step.call (all_cells s) (all_cells t) s.within becomes.leaves m, goes)) in
      let steps : take (i + 1) ss ≡ take i ss ++ (step ∷ []) = take_more ss i step inside ∙ ap (λ (t : Step C). take i ss ++ (t ∷ [])) (sym is) in
      rw (take_more_set os i o room, steps) (runs-more q n (take i ss) step os₀ (take i os) o (all_cells first) (all_cells s) (all_cells t) a b a' k l k' r turn)

  -- a run from the opening on, over the cells xs, which are all taken, and which end as zs
  pub from_opening : (b : Codebook) (s t : Sheet) (xs zs : List ℕ) → opening b.n b.working (length xs) ≡ Ok tt → Opened b xs s → zs ≡ all_cells t
      → (ss : List (Step C)) (os os' : List Outcome) (a a' k k' : List ℕ) (v : Verdict) → v ≡ Ok tt
      → runs v book (symbols s) (places s) ss (all_cells s) (all_cells t) os os' a a' k k' → works v book b.q b.n ss xs zs os os' a a' k k'
  from_opening b s t xs zs accepted new ends ss os os' a a' k k' v ok ran =
      let q : ℕ = symbols s in
      let n : ℕ = places s in
      let long : length xs ≡ b.n = opening_fits b.n b.working (length xs) accepted in
      let all : n ≡ b.n = new.n ∙ opened_full b.n b.working (length xs) accepted in
      let run : runs (Ok tt) book q n ss (all_cells s) (all_cells t) os os' a a' k k' = rw ok at ran in
      let begun : Marks q n [] (take n (all_cells s)) = fresh q n xs (all_cells s) new.wiped in
      let sized : length (all_cells t) ≤ n = omega (arith, ap length run.0, length-lefts q n (made_calls ss) (all_cells s), ap length new.wiped, length-left q n Wipe xs) in
      let ended : Marks q n (made_calls ss) (all_cells t) = rw (take_all n (all_cells t) sized) at (run.1 [] begun).0 in
      let Both : ℕ → ℕ → Type 0 = λ x y. Marks x y (made_calls ss) zs × Worked book x y [] ss os' a a' k k' in
      rw ok (subst (λ (y : ℕ). Both b.q y) all (subst (λ (x : ℕ). Both x n) new.q (rw ends ended, (run.1 [] begun).1)))
