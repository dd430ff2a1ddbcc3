-- What a code means, and the laws that every code shows. Assumes nothing.
use Rattle.std.specs.Prelude.{◌≡◌, ℕ, ◌<◌, ◌≤◌, ◌≢◌, List, length, replicate, slice_index}
use Rattle.code.specs.Cells.{differing, listed}

-- what reading needs of a code: its number of symbols q, length n, distance d and working cells, and its words
pub record Codebook : Type 1 where
  pub q : ℕ
  pub n : ℕ
  pub d : ℕ
  pub working : ℕ
  pub Word : List ℕ → Type 0

-- words are n symbols each, and two different ones differ in at least d places
pub record Apart (b : Codebook) : Type 0 where
  pub positive : 1 ≤ b.d
  pub short : b.d ≤ b.n
  pub sized : (w : List ℕ) → b.Word w → length w ≡ b.n
  pub symbols : (w : List ℕ) → b.Word w → (i : ℕ) → i < b.n → slice_index w i < b.q
  pub apart : (u v : List ℕ) → b.Word u → b.Word v → u ≢ v → b.d ≤ differing u v

-- what printing adds: the number k of message symbols, and the place of each
pub record Layout : Type 0 where
  pub k : ℕ
  pub place : ℕ → ℕ

-- m is k symbols
pub record Message (q k : ℕ) (m : List ℕ) : Type 0 where
  pub sized : length m ≡ k
  pub symbols : (i : ℕ) → i < k → slice_index m i < q

-- message symbol i stands at its place in w, for every i
abbrev pub Carries : Layout → List ℕ → List ℕ → Type 0
Carries l m w = (i : ℕ) → i < l.k → slice_index w (l.place i) ≡ slice_index m i

-- what stands at the message places of w
abbrev pub taken : Layout → List ℕ → List ℕ
taken l w = listed l.k (λ i. slice_index w (l.place i))

-- the words are closed under the alphabet's arithmetic, and every message is carried by exactly one
pub record Linear (b : Codebook) (l : Layout) (add mul : ℕ → ℕ → ℕ) : Type 0 where
  pub few : l.k ≤ b.n
  pub inside : (i : ℕ) → i < l.k → l.place i < b.n
  pub distinct : (i j : ℕ) → i < l.k → j < l.k → l.place i ≡ l.place j → i ≡ j
  pub nought : b.Word (replicate b.n 0)
  pub sums : (u v : List ℕ) → b.Word u → b.Word v → b.Word (listed b.n (λ i. add (slice_index u i) (slice_index v i)))
  pub multiples : (a : ℕ) (u : List ℕ) → a < b.q → b.Word u → b.Word (listed b.n (λ i. mul a (slice_index u i)))
  pub carried : (m : List ℕ) → Message b.q l.k m → (w : List ℕ) × (b.Word w × Carries l m w)
  pub once : (m u v : List ℕ) → Message b.q l.k m → b.Word u → b.Word v → Carries l m u → Carries l m v → u ≡ v
