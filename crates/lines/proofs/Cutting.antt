-- How a line falls into its first field and the fields after it. Assumes nothing.
use Rattle.std.specs.List.{position_or_len}
use Rattle.std.proofs.lemmas.List.Recursion.{is_position_or_len}
use Rattle.std.proofs.lemmas.List.Sums.{prefix_len-le-length}
use Rattle.std.specs.Borrow.{Bor}
use Rattle.std.specs.Slice.{IsGetRangeResult}
use Rattle.std.proofs.Common.{add-one, drop-cons, inl, inr, Option, Some, None, position, unwrap_or, ◌==◌, ◌≡◌, ℕ, suc, ◌+◌, ◌<◌, ◌≤◌, Bool, true, false, cond, eqb, List, [], ◌∷◌, length, take, drop, Err, sym, refl, ap, ◌∙◌, arith}
use Rattle.std.proofs.lemmas.Bool.Decides.{nat_tests}
use Rattle.std.proofs.lemmas.List.{take_rest, drop_all}
use Rattle.lines.specs.Fields.{onto, fields, others, till, garbled, ended}

-- the first index of the mark, or the length
pub till_is : (mark : ℕ) (bs : List ℕ) → unwrap_or (position (λ b. b == mark) bs) (length bs) ≡ till mark bs
till_is mark bs =
    let e : till mark bs ≡ position_or_len (λ b. b == mark) bs = is_position_or_len (till mark) (λ b. b == mark) refl (λ x xs. grind (arith, nat_tests)) bs in
    let l : position_or_len (λ b. b == mark) bs ≤ length bs = prefix_len-le-length _ bs in
    rw e (grind (arith, nat_tests))

-- the fields after the first, at what follows it
abbrev after : List ℕ → List (List ℕ)
after [] = []
after (b ∷ bs) = fields bs

first_step : (b : ℕ) (bs : List ℕ) (t : Bool) → fields bs ≡ take (till 9 bs) bs ∷ after (drop (till 9 bs) bs)
    → cond t ([] ∷ fields bs) (onto b (fields bs)) ≡ take (cond t 0 (suc (till 9 bs))) (b ∷ bs) ∷ after (drop (cond t 0 (suc (till 9 bs))) (b ∷ bs))
first_step b bs true h = refl
first_step b bs false h = ap (onto b) h

fields-first : (l : List ℕ) → fields l ≡ take (till 9 l) l ∷ after (drop (till 9 l) l)
fields-first [] = refl
fields-first (b ∷ bs) = first_step b bs (eqb b 9) (fields-first bs)

-- a line that is cut at its first tab
pub cut_at : (l : List ℕ) (e : ℕ) (r : Option (Bor (List ℕ))) → e ≡ till 9 l → IsGetRangeResult l (e + 1) (length l) r → fields l ≡ take e l ∷ others r
cut_at l e None is h =
    let past : length l ≤ e = elim h.0 [ inl a ↦ omega arith | inr b ↦ omega arith ] in
    rw (fields-first l, ← is, drop_all e l past) refl
cut_at l e (Some rest) is h =
    let inside : e < length l = omega (arith, h.0.0) in
    let follows : rest.now ≡ drop (suc e) l = h.0.2 ∙ (take_rest l (e + 1) ∙ ap (λ (i : ℕ). drop i l) (add-one e)) in
    rw (fields-first l, ← is, drop-cons l e 0 inside, follows) refl

-- where a field follows, there is one too many
pub more_follow : {X : Type 0} (x : X) (k : ℕ) (l : List ℕ) → Err (garbled k) ≡ ended x k (fields l)
more_follow x k l = sym (ap (ended x k) (fields-first l))
