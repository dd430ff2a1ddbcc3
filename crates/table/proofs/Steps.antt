-- What one turn of a loop over a table adds, and what a list of zeros and a table that can be filled are. Assumes nothing.
use Rattle.std.proofs.Common.{◌≡◌, ℕ, zero, suc, ◌+◌, ◌*◌, ◌<◌, true, eqb, ◌≢◌, List, length, get_or, set, replicate, Ok, sym, refl, ◌∙◌, subst, arith, get_or-set_other, get_or-set_same, below_more}
use Rattle.code.specs.Cells.{good}
use Rattle.code.specs.declared.cells.Content.TheVariants.{Word}
use Rattle.code.specs.Refusals.{Verdict, clean}
use Rattle.std.proofs.lemmas.Bool.{cond-true, eq-eqb}
use Rattle.table.specs.Tables.{tabulable}
use Rattle.table.specs.Makers.{fillable}

-- one more check symbol behind the message
pub put_check : (xs ys : List ℕ) (k j v : ℕ) (C : ℕ → ℕ) → k + j < length xs → ((i : ℕ) → i < k → get_or xs i 0 ≡ get_or ys i 0) → ((i : ℕ) → i < j → get_or xs (k + i) 0 ≡ C i) → v ≡ C j
    → ((i : ℕ) → i < k → get_or (set xs (k + j) v) i 0 ≡ get_or ys i 0) × ((i : ℕ) → i < j + 1 → get_or (set xs (k + j) v) (k + i) 0 ≡ C i)
put_check xs ys k j v C h front back here = (
  λ i l. let ne : i ≢ k + j = omega arith in rw get_or-set_other (front i l),
  below_more _ _ (λ i l. let ne : k + i ≢ k + j = omega arith in rw get_or-set_other (back i l)) (rw get_or-set_same here),
)

pub noughts : (n i : ℕ) → ◌≡◌ {A = ℕ} (get_or (replicate n 0) i 0) 0
noughts zero i = refl
noughts (suc n) zero = refl
noughts (suc n) (suc i) = noughts n i

pub fillable_ok : (q k m : ℕ) (cs : List ℕ) (p : ℕ) → true ≡ tabulable q k m → length cs ≡ k * m → p ≡ q → Ok tt ≡ clean (good Word p) cs → Ok tt ≡ fillable q k m cs
fillable_ok q k m cs p e l ep ok =
    subst (λ (x : ℕ). ◌≡◌ {A = Verdict} (Ok tt) (clean (good Word x) cs)) ep ok
    ∙ sym (cond-true (eqb (length cs) (k * m)) _ _ (eq-eqb (length cs) (k * m) l))
    ∙ sym (cond-true (tabulable q k m) _ _ (sym e))
