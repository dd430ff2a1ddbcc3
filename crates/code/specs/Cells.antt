-- Cells, and what received cells cost against a word. Assumes nothing.
use Rattle.std.specs.Prelude.{◌≡◌, ℕ, zero, suc, ◌+◌, ◌*◌, ◌<◌, Bool, true, cond, ◌||◌, List, [], ◌∷◌, map, length, ◌==◌, nat_lt, slice_index}
use Rattle.std.specs.List.{range_with_len}
use Rattle.alphabet.specs.Sums.{sum}
use Rattle.code.specs.declared.cells.Content.{Content}
use Rattle.code.specs.declared.cells.Content.TheVariants.{Word, Received}

-- a cell that the scanner could not read: an erasure
abbrev pub blank : ℕ
blank = 65535

-- the list f 0 .. f (n - 1)
abbrev pub listed : ℕ → (ℕ → ℕ) → List ℕ
listed n f = map f (range_with_len 0 n)

-- 1 where a received symbol is another than the word's, 0 where it is the same or nothing could be read
abbrev pub wrong : ℕ → ℕ → ℕ
wrong r w = cond (r == blank) 0 (cond (r == w) 0 1)

-- 1 where nothing could be read
abbrev pub faint : ℕ → ℕ
faint r = cond (r == blank) 1 0

-- e, the number of received symbols that differ from the word's
abbrev pub wrongs : List ℕ → List ℕ → ℕ
wrongs r w = sum (length r) (λ i. wrong (slice_index r i) (slice_index w i))

-- s, the number of blanks
abbrev pub blanks : List ℕ → ℕ
blanks r = sum (length r) (λ i. faint (slice_index r i))

-- 2 for each wrong cell and 1 for each blank
abbrev pub cost : List ℕ → List ℕ → ℕ
cost r w = 2 * wrongs r w + blanks r

-- the cost of one cell against one symbol
unfoldable pub price : ℕ → ℕ → ℕ
price r w = cond (r == blank) 1 (cond (r == w) 0 2)

-- the number of places in which two words differ
abbrev pub differing : List ℕ → List ℕ → ℕ
differing u v = sum (length u) (λ i. cond (slice_index u i == slice_index v i) 0 1)

-- a word holds symbols only, and received cells symbols or blanks
abbrev pub good : Content → ℕ → ℕ → Bool
good Word q x = nat_lt x q
good Received q x = nat_lt x q || x == blank

-- every cell is good
abbrev pub Holds : Content → ℕ → List ℕ → Type 0
Holds t q xs = (i : ℕ) → i < length xs → good t q (slice_index xs i) ≡ true

-- the first m cells zero, or all where there are fewer; the rest as they were
abbrev pub zeroed : ℕ → List ℕ → List ℕ
zeroed zero w = w
zeroed (suc m) [] = []
zeroed (suc m) (x ∷ w) = 0 ∷ zeroed m w
