-- A word that costs less than the distance comes back from every read, and one at the distance from none. Assumes nothing.
use Rattle.std.proofs.Common.{◌≡◌, ℕ, ◌<◌, List, length, Ok, Err, Result, sym, ap, ◌∙◌, subst, ap₂, inl, inr, arith, ◌≤◌, eqb, ltb}
use Rattle.forecast.specs.declared.Forecast.{Forecast}
use Rattle.std.proofs.lemmas.Bool.{cases_eq, cases_lt, eq-eqb, ne_eqb, lt-ltb, le-ltb, cond-true, cond-false}
use Rattle.code.specs.declared.cells.Counts.{Counts}
use Rattle.code.specs.declared.refusals.Reason.TheVariants.{Lost}
use Rattle.code.specs.declared.refusals.Refusal.{Refusal}
use Rattle.code.specs.Cells.{wrongs, cost}
use Rattle.code.specs.Codes.{Codebook, Layout, Apart, taken}
use Rattle.code.specs.Refusals.{Verdict, refusal}
use Rattle.code.specs.Calls.{found, reads, read_checks, Reads}
use Rattle.code.proofs.Costs.{at_reach}
use Rattle.code.proofs.Rows.{equal_or_not, taken_encoded}
use Rattle.forecast.specs.declared.Forecast.TheVariants.{Returns, GetsLost}
use Rattle.forecast.specs.Forecasts.{forecast, Returned, Foretells, foreseen}

module _ (b : Codebook) (apart : Apart b) (l : Layout) (w r : List ℕ) (word : b.Word w) (sized : length r ≡ b.n) where
  judged : (a a' k k' : List ℕ) (res : Result Counts Refusal) → read_checks b r a k ≡ Ok tt → Reads b r a a' k k' res → found b r a a' res
  judged a a' k k' res passed h = subst (λ (v : Verdict). reads v b r a a' res) passed h.answer

  returned : (a a' : List ℕ) (res : Result Counts Refusal) → cost r w < b.d → found b r a a' res → Returned l w r a' res
  returned a a' (Ok c) cheap h =
      let same : a' ≡ w = elim (equal_or_not a' w) [
        | inl e ↦ e
        | inr ne ↦ absurd (omega (arith, h.others w word (λ e. ne (sym e))))
      ] in
      let mk : ℕ → ℕ → Result Counts Refusal = λ x y. Ok (record { wrong = x; blank = y }) in
      record {
        word = same;
        counts = ap₂ mk (h.wrong ∙ ap (wrongs r) same) h.blank;
        message = λ m e carries. ap (taken l) same ∙ taken_encoded l m w e carries;
      }
  returned a a' (Err e) cheap h = absurd (omega (arith, h.1 w word))

  returns : cost r w < b.d → Foretells b l w r Returns
  returns cheap a a' k k' res passed h = returned a a' res cheap (judged a a' k k' res passed h)

  lost : (a a' : List ℕ) (res : Result Counts Refusal) → cost r w ≡ b.d → found b r a a' res → (res ≡ Err (refusal Lost 0)) × (a' ≡ a)
  lost a a' (Ok c) at h = absurd (omega (arith, h.reach, at_reach b apart r sized w word at a' h.word))
  lost a a' (Err e) at h = (ap Err h.0, h.2)

  gets_lost : cost r w ≡ b.d → Foretells b l w r GetsLost
  gets_lost at a a' k k' res passed h = lost a a' res at (judged a a' k k' res passed h)

  -- whatever the forecast, it comes true
  pub foretold : Foretells b l w r (forecast (cost r w) b.d)
  foretold =
      let c : ℕ = cost r w in
      elim (cases_lt c b.d) [
        | inl less ↦ rw (lt-ltb c b.d less) (returns less)
        | inr most ↦ elim (cases_eq c b.d) [
          | inl e ↦ rw (le-ltb c b.d most, eq-eqb c b.d e) (gets_lost e)
          | inr ne ↦ rw (le-ltb c b.d most, ne_eqb c b.d ne) (λ a a' k k' res passed h. tt)
        ]
      ]

-- sizes that fit leave the forecast of the cost
pub sizes_fit : (n d : ℕ) (w r : List ℕ) (f : Forecast) → n ≤ 4096 → length w ≡ n → length r ≡ n → f ≡ forecast (cost r w) d → Ok f ≡ foreseen n d w r
sizes_fit n d w r f short ew er ef =
    ap Ok ef
    ∙ sym (cond-true (eqb (length r) n) _ _ (eq-eqb (length r) n er))
    ∙ sym (cond-true (eqb (length w) n) _ _ (eq-eqb (length w) n ew))
    ∙ sym (cond-false (ltb 4096 n) _ _ (le-ltb 4096 n short))
