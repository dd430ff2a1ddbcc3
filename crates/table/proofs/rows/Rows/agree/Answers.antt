use Rattle.std.proofs.Common.{◌≡◌, ℕ, ◌+◌, ◌<◌, Bool, true, eqb, List, length, get_or, sym, ap, ◌∙◌, arith, rules, tests}
use Rattle.std.specs.List.{list_all, enumerate_from}
use Rattle.std.proofs.lemmas.Bool.{eqb-true, eq-eqb}
use Rattle.std.proofs.lemmas.Iterator.{YieldsList-from_slice}
use Rattle.std.proofs.lemmas.Iterator.Consumers.{YieldsList-at, YieldsList-from_enumerate}
use Rattle.std.proofs.lemmas.Iterator.Search.{all_from_yields_List}
use Rattle.std.proofs.lemmas.List.Elements.{All-get_or, All-from_get_or}
use Rattle.std.proofs.lemmas.List.Sums.{AllPass-from_list_all, list_all-from_AllPass}
use Rattle.std.proofs.lemmas.List.FromFn.{get_or-enumerate_from, length-enumerate_from}
use Rattle.table.specs.Tables.{check}
use Rattle.table.specs.Rows.{generator_of}
use Rattle.table.proofs.rows.Rows.agree.Goals as goal

-- the cells xs are f 0, f 1 and so on
module _ (f : ℕ → ℕ) (xs : List ℕ) where
  abbrev fits : ℕ × ℕ → Bool
  fits p = eqb p.1 (f p.0)

  at : (j : ℕ) → j < length xs → fits (get_or (enumerate_from 0 xs) j (0, 0)) ≡ eqb (get_or xs j 0) (f j)
  at j l = let e : 0 + j ≡ j = omega arith in ap fits (get_or-enumerate_from 0 xs j (0, 0) l) ∙ ap (λ i. eqb (get_or xs j 0) (f i)) e

  all_fit : list_all fits (enumerate_from 0 xs) ≡ true → (j : ℕ) → j < length xs → get_or xs j 0 ≡ f j
  all_fit e j l =
      eqb-true (get_or xs j 0) (f j)
      (sym (at j l) ∙ All-get_or (λ p. fits p ≡ true) (enumerate_from 0 xs) j (0, 0) (omega (arith, length-enumerate_from 0 xs)) (AllPass-from_list_all fits (enumerate_from 0 xs) e))

  fit_all : ((j : ℕ) → j < length xs → get_or xs j 0 ≡ f j) → list_all fits (enumerate_from 0 xs) ≡ true
  fit_all h =
      list_all-from_AllPass fits (enumerate_from 0 xs)
      (All-from_get_or (λ p. fits p ≡ true) (enumerate_from 0 xs) (0, 0)
      (λ j l. let b : j < length xs = omega (arith, length-enumerate_from 0 xs) in at j b ∙ eq-eqb (get_or xs j 0) (f j) (h j b)))

pub returns : goal.returns
returns g c =
    let f : ℕ → ℕ = check (generator_of c.args.self.now) (λ i. get_or c.args.message.now i 0) in
    let xs : List ℕ = c.args.checks.now in
    let is : c.all.result ≡ list_all (fits f xs) (enumerate_from 0 xs) =
    all_from_yields_List (fits f xs) _ _ c.all.result c.all.ensures.ran
    (YieldsList-from_enumerate (YieldsList-at c.enumerate.ensures.source (YieldsList-from_slice xs cc)) c.enumerate.ensures.count) (λ x b q k. search (rules, tests)) in
    (λ t j l. all_fit f xs (sym is ∙ t) j (omega arith), λ h. is ∙ fit_all f xs (λ j l. h j (omega arith)))
