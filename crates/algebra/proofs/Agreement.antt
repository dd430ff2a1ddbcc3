-- Two reads of the same cells by codes with the same words agree, where neither is refused by a size or a cell. Assumes nothing.
use Rattle.std.proofs.Common.{◌≡◌, ℕ, ◌<◌, ◌≤◌, List, Ok, Err, Result, sym, ap, ◌∙◌, subst, ap₂, ⊎_elim, arith}
use Rattle.code.specs.declared.cells.Counts.{Counts}
use Rattle.code.specs.declared.refusals.Refusal.{Refusal}
use Rattle.code.specs.Cells.{cost, wrongs}
use Rattle.code.specs.Codes.{Codebook}
use Rattle.code.specs.Refusals.{Verdict}
use Rattle.code.specs.Calls.{found, reads, read_checks, Reads}
use Rattle.code.proofs.Rows.{equal_or_not}
use Rattle.algebra.specs.Agreement.{Same, Agree}

passed : (s : Codebook) (r a a' k k' : List ℕ) (x : Result Counts Refusal) → read_checks s r a k ≡ Ok tt → Reads s r a a' k k' x → found s r a a' x
passed s r a a' k k' x e h = subst (λ (v : Verdict). reads v s r a a' x) e h.answer

both : (s t : Codebook) (r a a' b b' : List ℕ) (x y : Result Counts Refusal) → Same s t → found s r a a' x → found t r b b' y → Agree a' b' x y
both s t r a a' b b' (Ok c) (Ok e) same p q =
    let eq : a' ≡ b' =
    ⊎_elim (λ w. w) (λ ne. let far : s.d < cost r b' = p.others b' (same.from b' q.word) (λ w. ne (sym w)) in absurd (omega (arith, q.reach, same.distance))) (equal_or_not a' b') in
    let mk : ℕ → ℕ → Counts = λ w b. record { wrong = w; blank = b } in
    (ap₂ mk (p.wrong ∙ ap (wrongs r) eq ∙ sym q.wrong) (p.blank ∙ sym q.blank), eq)
both s t r a a' b b' (Ok c) (Err e) same p q =
    let far : t.d ≤ cost r a' = q.1 a' (same.to a' p.word) in
    absurd (omega (arith, p.reach, same.distance))
both s t r a a' b b' (Err c) (Ok e) same p q =
    let far : s.d ≤ cost r b' = p.1 b' (same.from b' q.word) in
    absurd (omega (arith, q.reach, same.distance))
both s t r a a' b b' (Err c) (Err e) same p q = p.0 ∙ sym q.0

pub agree : (s t : Codebook) (r a a' k k' b b' l l' : List ℕ) (x y : Result Counts Refusal) → Same s t
    → read_checks s r a k ≡ Ok tt → read_checks t r b l ≡ Ok tt → Reads s r a a' k k' x → Reads t r b b' l l' y → Agree a' b' x y
agree s t r a a' k k' b b' l l' x y same ex ey hx hy =
    both s t r a a' b b' x y same (passed s r a a' k k' x ex hx) (passed t r b b' l l' y ey hy)
