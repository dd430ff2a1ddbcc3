-- The table code: a message followed by its check symbols, each a sum of message symbols times coefficients. Assumes nothing.
use Rattle.std.specs.Prelude.{◌≡◌, ℕ, zero, suc, ◌+◌, ◌-◌, ◌*◌, ◌/◌, ◌%◌, ◌^◌, ◌<◌, ◌≤◌, min, Bool, cond, ◌&&◌, ◌≢◌, List, length, ◌==◌, nat_le, nat_lt, slice_index, slice_index_or}
use Rattle.alphabet.specs.Sums.{sum, added}
use Rattle.code.specs.Cells.{listed}
use Rattle.code.specs.Codes.{Codebook, Layout}

-- a generator: k message symbols, m check symbols and the coefficients row by row, in the arithmetic of q symbols
pub record Generator : Type 0 where
  pub q : ℕ
  pub add : ℕ → ℕ → ℕ
  pub mul : ℕ → ℕ → ℕ
  pub k : ℕ
  pub m : ℕ
  pub rows : List ℕ

abbrev pub generator : ℕ → (ℕ → ℕ → ℕ) → (ℕ → ℕ → ℕ) → ℕ → ℕ → List ℕ → Generator
generator q add mul k m rows = record { q = q; add = add; mul = mul; k = k; m = m; rows = rows }

-- coefficient j of row i
abbrev pub coefficient : Generator → ℕ → ℕ → ℕ
coefficient s i j = slice_index s.rows (i * s.m + j) % s.q

-- check symbol j of the message x: the sum of message symbol i times coefficient j of row i
abbrev pub check : Generator → (ℕ → ℕ) → ℕ → ℕ
check s x j = added s.add s.k (λ i. s.mul (x i) (coefficient s i j))

-- a message: k symbols
pub record Message (s : Generator) (x : List ℕ) : Type 0 where
  pub sized : length x ≡ s.k
  pub symbols : (i : ℕ) → i < s.k → slice_index x i < s.q

-- y holds the check symbols of the message x
abbrev pub Checks : Generator → List ℕ → List ℕ → Type 0
Checks s x y = (j : ℕ) → j < s.m → slice_index y j ≡ check s (λ i. slice_index x i) j

-- a word: k message symbols, followed by their m check symbols
pub record Tabled (s : Generator) (w : List ℕ) : Type 0 where
  pub sized : length w ≡ s.k + s.m
  pub symbols : (i : ℕ) → i < s.k + s.m → slice_index w i < s.q
  pub checks : (j : ℕ) → j < s.m → slice_index w (s.k + j) ≡ check s (λ i. slice_index w i) j

-- the number of symbols that are not 0
abbrev pub weight : List ℕ → ℕ
weight w = sum (length w) (λ i. cond (slice_index w i == 0) 0 1)

-- d is the least weight of a word whose message is not all 0: some such word weighs d, and none weighs less
pub record Least (s : Generator) (d : ℕ) : Type 0 where
  pub lightest : List ℕ
  pub tabled : Tabled s lightest
  pub place : ℕ
  pub inside : place < s.k
  pub nonzero : slice_index_or lightest place 0 ≢ 0
  pub reached : weight lightest ≡ d
  pub below : (w : List ℕ) → Tabled s w → (i : ℕ) → i < s.k → slice_index w i ≢ 0 → d ≤ weight w

-- To compute it, the messages are numbered 0 .. q ^ k - 1, symbol i of number t being its digit i in base q, from the lowest.
abbrev pub over : ℕ → ℕ → ℕ → ℕ
over q t zero = t
over q t (suc i) = over q t i / q

abbrev pub digit : ℕ → ℕ → ℕ → ℕ
digit q t i = over q t i % q

-- and back: the number of the message x of k symbols
abbrev pub number : ℕ → ℕ → (ℕ → ℕ) → ℕ
number q zero x = 0
number q (suc k) x = number q k (λ i. x (suc i)) * q + x 0

-- the word of message t
abbrev pub letter : Generator → ℕ → ℕ → ℕ
letter s t j = cond (nat_lt j s.k) (digit s.q t j) (check s (digit s.q t) (j - s.k))

abbrev pub spelled : Generator → ℕ → List ℕ
spelled s t = listed (s.k + s.m) (letter s t)

-- the least of b and f 0 .. f (n - 1)
abbrev pub lowest : ℕ → (ℕ → ℕ) → ℕ → ℕ
lowest b f zero = b
lowest b f (suc n) = min (lowest b f n) (f n)

-- the least weight among the words of the messages 1 .. q ^ k - 1; that it is the least of all is shown
unfoldable pub least : Generator → ℕ
least s = lowest (s.k + s.m) (λ t. weight (spelled s (t + 1))) (s.q ^ s.k - 1)

abbrev pub tables : Generator → Codebook
tables s = record { q = s.q; n = s.k + s.m; d = least s; working = s.k + s.m; Word = Tabled s }

-- the message stands at the first places
abbrev pub front : ℕ → Layout
front k = record { k = k; place = λ i. i }

-- the limits of the maker: k from 1 to 8, m from 1 to 16, and at most 65,536 messages
abbrev pub tabulable : (q k m : ℕ) → Bool
tabulable q k m = (nat_le 1 k && nat_le k 8) && ((nat_le 1 m && nat_le m 16) && nat_le (q ^ k) 65536)

-- the number of messages up to 65,536, and 65,537 above that
abbrev pub capped : (q k : ℕ) → ℕ
capped q k = cond (nat_le (q ^ k) 65536) (q ^ k) 65537
