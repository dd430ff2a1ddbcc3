-- Cells as a message and the check symbols behind it. Assumes nothing.
use Rattle.std.proofs.Common.{◌≡◌, ℕ, ◌+◌, ◌-◌, ◌<◌, true, List, ◌++◌, length, get_or, take, drop, sym, ap, ◌∙◌, arith, length-append, length-take, length-drop}
use Rattle.std.proofs.lemmas.Bool.Decides.{nat_tests}
use Rattle.code.specs.Cells.{good}
use Rattle.code.specs.declared.cells.Content.TheVariants.{Word}
use Rattle.std.proofs.lemmas.List.{get_or-take, get_or-drop}
use borrow.Rule.Slice.PartMut.{put_mid, mid_of}
use Rattle.alphabet.specs.Rings.{Ring}
use Rattle.table.specs.Tables.{Generator, check, Tabled}
use Rattle.table.specs.Laws.{check_same}

-- the length of cells whose end has been written over
pub length-end : (k m : ℕ) (xs ys : List ℕ) → length xs ≡ k + m → length ys ≡ length (mid_of k (length xs - k) xs) → length (put_mid k (length xs - k) xs ys) ≡ k + m
length-end k m xs ys long wide =
    omega (
      arith,
      length-append (take k xs) (ys ++ drop (length xs - k) (drop k xs)),
      length-append ys (drop (length xs - k) (drop k xs)),
      length-take k xs,
      length-take (length xs - k) (drop k xs),
      length-drop k xs,
      length-drop (length xs - k) (drop k xs),
    )

-- cells are a word where those behind the message are its check symbols
module _ (s : Generator) {neg : ℕ → ℕ} (r : Ring s.q s.add neg s.mul) (cells message checks : List ℕ) (front : message ≡ take s.k cells) (back : checks ≡ drop s.k cells) where
  first : (j : ℕ) → check s (λ i. get_or message i 0) j ≡ check s (λ i. get_or cells i 0) j
  first j = check_same s r (λ i. get_or message i 0) (λ i. get_or cells i 0) j (λ i l. ap (λ u. get_or u i 0) front ∙ get_or-take s.k cells i 0 l)

  last : (j : ℕ) → get_or checks j 0 ≡ get_or cells (s.k + j) 0
  last j = ap (λ u. get_or u j 0) back ∙ get_or-drop s.k cells j 0

  pub agreed : length cells ≡ s.k + s.m → ((i : ℕ) → i < s.k + s.m → get_or cells i 0 < s.q)
      → ((j : ℕ) → j < s.m → get_or checks j 0 ≡ check s (λ i. get_or message i 0) j) → Tabled s cells
  agreed sized low agree = record { sized = sized; symbols = low; checks = λ j l. sym (last j) ∙ agree j l ∙ first j }

  pub agrees : Tabled s cells → (j : ℕ) → j < s.m → get_or checks j 0 ≡ check s (λ i. get_or message i 0) j
  agrees t j l = last j ∙ t.checks j l ∙ sym (first j)

pub symbol_good : (x q p : ℕ) → p ≡ q → good Word p x ≡ true → x < q
symbol_good x q p e h = let l : x < p = grind (arith, nat_tests) in omega arith
