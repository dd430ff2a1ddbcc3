-- Places of a grid, and what one write more leaves of its rows and columns. Assumes nothing.
use Rattle.std.proofs.Common.{◌≡◌, ℕ, suc, ◌+◌, ◌-◌, ◌*◌, ◌<◌, ◌≤◌, ◌≢◌, List, ◌++◌, length, get_or, take, drop, set, sym, ap, ◌∙◌, subst, inl, inr, mul-le-mul_right, suc-mul, mul-le-mul_left, arith, length-drop, length-take, get_or-set_other, get_or-set_same, ext_get_or, below_more, min, zero-mul}
use lib.Arith.{digits_lt}
use borrow.Rule.Slice.PartMut.{put_mid}
use Rattle.std.proofs.lemmas.Bool.{cases_lt, cases_order}
use Rattle.std.proofs.lemmas.Slice.{take-put_mid_below, between-put_mid, drop-put_mid}
use Rattle.std.proofs.lemmas.List.{drop-take, drop-drop, length-append}
use Rattle.std.proofs.Math.Seq.{take-append_seam, drop-append_seam}
use Rattle.code.specs.Cells.{zeroed}
use Rattle.algebra.specs.Grids.{row}
use Rattle.code.proofs.Rows.{zeroed-over}
use Rattle.algebra.proofs.Grids.{place, row_at, row_is_slice}

-- the place of row i and column j lies in the grid
pub at : {m n i j s : ℕ} → s ≡ m * n → i < m → j < n → i * n + j < s
at e p q = let h = digits_lt p q in omega arith

-- two places of one column differ
pub apart : (n i k j : ℕ) → j < n → k < i → (k * n + j ≢ i * n + j)
apart n i k j q p = let h = digits_lt p q in λ e. omega (arith, e)

-- places of two columns differ
pub other_place : (n i k j m : ℕ) → j < n → m < n → m ≢ j → (k * n + m ≢ i * n + j)
other_place n i k j m q p ne e =
    elim (cases_order k i) [
      | inl z ↦ ne (omega (arith, ap (λ x. x * n) z, e))
      | inr s ↦ elim s [
        | inl l ↦ let h = digits_lt l p in omega (arith, e)
        | inr l ↦ let h = digits_lt l q in omega (arith, e)
      ]
    ]

-- one more cell is written
pub set_more : (P : ℕ → ℕ → Type 0) (xs : List ℕ) (i v : ℕ) → i < length xs → ((k : ℕ) → k < i → P k (get_or xs k 0)) → P i v → (k : ℕ) → k < i + 1 → P k (get_or (set xs i v) k 0)
set_more P xs i v h below here =
    below_more (λ k. P k (get_or (set xs i v) k 0)) i
    (λ k l. let ne : k ≢ i = omega arith in rw get_or-set_other (below k l))
    (rw get_or-set_same here)

-- one more cell of a column is written
pub column-more : (P : ℕ → ℕ → Type 0) (xs : List ℕ) (n j i v : ℕ) → j < n → i * n + j < length xs → ((k : ℕ) → k < i → P k (get_or xs (k * n + j) 0)) → P i v → (k : ℕ) → k < i + 1 → P k (get_or (set xs (i * n + j) v) (k * n + j) 0)
column-more P xs n j i v q h below here =
    below_more (λ k. P k (get_or (set xs (i * n + j) v) (k * n + j) 0)) i
    (λ k l. let ne : (k * n + j ≢ i * n + j) = apart n i k j q l in rw get_or-set_other (below k l))
    (rw get_or-set_same here)

-- and the other columns stay
pub column_other : (xs ys : List ℕ) (n j i v : ℕ) → j < n → ((k m : ℕ) → m < n → m ≢ j → get_or xs (k * n + m) 0 ≡ get_or ys (k * n + m) 0)
    → (k m : ℕ) → m < n → m ≢ j → get_or (set xs (i * n + j) v) (k * n + m) 0 ≡ get_or ys (k * n + m) 0
column_other xs ys n j i v q before k m l other =
    let ne : (k * n + m ≢ i * n + j) = other_place n i k j m q l other in rw get_or-set_other (before k m l other)

-- the rows before row i end before it begins
pub row_end : (n k i : ℕ) → k < i → k * n + n ≤ i * n
row_end n k i h = let p : suc k ≤ i = omega arith in omega (arith, mul-le-mul_right n p, suc-mul k n)

pub long_put : (a k : ℕ) (xs ys : List ℕ) → a + k ≤ length xs → length ys ≡ k → length (put_mid a k xs ys) ≡ length xs
long_put a k xs ys h e = simp (length-append, length-take, length-drop) (omega arith)

-- a write to row i leaves the rows before it
pub row_before : (n i k m : ℕ) (xs ys : List ℕ) → k < i → i * n + m ≤ length xs → length ys ≡ m → row n (put_mid (i * n) m xs ys) k ≡ row n xs k
row_before n i k m xs ys h le e =
    let end = row_end n k i h in
    sym (row_is_slice n k (put_mid (i * n) m xs ys) (omega (arith, long_put (i * n) m xs ys le e)))
    ∙ sym (drop-take (k * n) n (put_mid (i * n) m xs ys))
    ∙ ap (drop (k * n)) (take-put_mid_below (i * n) m xs ys (k * n + n) end (omega arith))
    ∙ drop-take (k * n) n xs
    ∙ row_is_slice n k xs (omega arith)

-- and those after it
pub row-after : (n i k m : ℕ) (xs ys : List ℕ) → i < k → m ≡ n → i * n + m ≤ length xs → k * n + n ≤ length xs → length ys ≡ m → row n (put_mid (i * n) m xs ys) k ≡ row n xs k
row-after n i k m xs ys h z le in' e =
    let end = row_end n i k h in
    sym (row_is_slice n k (put_mid (i * n) m xs ys) (omega (arith, long_put (i * n) m xs ys le e)))
    ∙ ap (take n) (drop-put_mid (i * n) m xs ys (k * n) (omega arith) (omega arith) e)
    ∙ row_is_slice n k xs in'

-- row i after the write to it
pub row_same : (n i m : ℕ) (xs ys : List ℕ) → m ≡ n → i * n + m ≤ length xs → length ys ≡ m → row n (put_mid (i * n) m xs ys) i ≡ ys
row_same n i m xs ys z le e =
    let w : i * n + n - i * n ≡ n = omega arith in
    sym (row_is_slice n i (put_mid (i * n) m xs ys) (omega (arith, long_put (i * n) m xs ys le e)))
    ∙ ap (λ (x : ℕ). take x (drop (i * n) (put_mid (i * n) m xs ys))) (sym w)
    ∙ between-put_mid (i * n) m xs ys (i * n + n) (omega arith) (omega arith)

-- a write to row i leaves the others
pub row_other : (n i k m : ℕ) (xs ys : List ℕ) → k ≢ i → m ≡ n → i * n + m ≤ length xs → k * n + n ≤ length xs → length ys ≡ m → row n (put_mid (i * n) m xs ys) k ≡ row n xs k
row_other n i k m xs ys ne z le in' e =
    elim (cases_order k i) [
      | inl q ↦ absurd (ne q)
      | inr s ↦ elim s [
        | inl l ↦ row_before n i k m xs ys l le e
        | inr l ↦ row-after n i k m xs ys l z le in' e
      ]
    ]

-- the part that a loop lends
pub row-part : (n i : ℕ) (w : List ℕ) → i * n + n ≤ length w → take (i * n + n - i * n) (drop (i * n) w) ≡ row n w i
row-part n i w h =
    let z : i * n + n - i * n ≡ n = omega arith in
    ap (λ (x : ℕ). take x (drop (i * n) w)) z ∙ row_is_slice n i w h

-- two grids agree that agree row by row
pub same_rows : (m n : ℕ) (u v : List ℕ) → length u ≡ m * n → length v ≡ m * n → ((i : ℕ) → i < m → row n u i ≡ row n v i) → u ≡ v
same_rows m n u v p q same =
    ext_get_or 0 u v (p ∙ sym q) (λ k h.
    let at = place m n k (omega arith) in
    let here : get_or u (at.i * n + at.j) 0 ≡ get_or v (at.i * n + at.j) 0 =
    sym (row_at n u at.i at.j at.column_in) ∙ ap (λ w. get_or w at.j 0) (same at.i at.row_in) ∙ row_at n v at.i at.j at.column_in in
    rw at.is at here)

-- one side of a small grid is small
pub side1 : (n m k : ℕ) → 1 ≤ m → n * m ≤ k → n ≤ k
side1 n m k p h = omega (arith, mul-le-mul_left n p)

pub side2 : (n m k : ℕ) → 1 ≤ n → n * m ≤ k → m ≤ k
side2 n m k p h = omega (arith, mul-le-mul_right m p)

-- a capped product is the cap of the product
pub cap_mul : (m n k : ℕ) → 1 ≤ m → 1 ≤ n → 1 ≤ k → min (min m k * min n k) k ≡ min (m * n) k
cap_mul m n k p q o =
    elim (cases_lt m k) [
      | inl a ↦ elim (cases_lt n k) [
        | inl b ↦ (let x : min m k ≡ m = omega arith in let y : min n k ≡ n = omega arith in rw (x, y))
        | inr b ↦ (let x : min m k ≡ m = omega arith in let y : min n k ≡ k = omega arith in rw (x, y) (omega (arith, mul-le-mul_right n p, mul-le-mul_right k p)))
      ]
      | inr a ↦ (let x : min m k ≡ k = omega arith in let z : 1 ≤ min n k = omega arith in rw x (omega (arith, mul-le-mul_left k z, mul-le-mul_left m q)))
    ]

pub cap_mul_any : (m n k : ℕ) → 1 ≤ k → min (min m k * min n k) k ≡ min (m * n) k
cap_mul_any m n k o =
    elim (cases_lt 0 m) [
      | inl p ↦ elim (cases_lt 0 n) [
        | inl q ↦ cap_mul m n k p q o
        | inr q ↦ let z : n ≡ 0 = omega arith in let y : min n k ≡ 0 = omega arith in rw y (omega (arith, ap (λ x. m * x) z))
      ]
      | inr p ↦ let z : m ≡ 0 = omega arith in let y : min m k ≡ 0 = omega arith in rw y (omega (arith, zero-mul (min n k), ap (λ x. x * n) z, zero-mul n))
    ]

-- the part from the start is written, and then the first w cells are wiped
pub wiped_part : (w W : ℕ) (xs ys zs : List ℕ) → w ≡ W → length ys ≡ w → w ≤ length xs → zs ≡ zeroed w (ys ++ drop (w - 0) xs) → zs ≡ zeroed W xs
wiped_part w W xs ys zs p q h e = e ∙ zeroed-over w ys xs q h ∙ ap (λ (x : ℕ). zeroed x xs) p

pub part_long : (m n : ℕ) (xs : List ℕ) → m ≡ n → n ≤ length xs → length (take (m - 0) xs) ≡ n
part_long m n xs e h = simp length-take (omega arith)

-- ---- rows taken one after the other
-- line is row i of the grid w, and rest what stands after it
pub record Next (n i : ℕ) (w line rest : List ℕ) : Type 0 where
  pub inside : i * n + n ≤ length w
  pub line_is : line ≡ row n w i
  pub rest_is : rest ≡ drop ((i + 1) * n) w

pub next_row : (n i : ℕ) (w left line rest : List ℕ) → 0 < n → left ≡ drop (i * n) w → left ≡ line ++ rest → length line ≡ n → Next n i w line rest
next_row n i w left line rest pos e f z =
    let both : drop (i * n) w ≡ line ++ rest = sym e ∙ f in
    let inside : i * n + n ≤ length w = omega (arith, length-drop (i * n) w, ap length both, length-append line rest) in
    let far : (i + 1) * n ≡ i * n + n = omega arith in
    record {
      inside = inside;
      line_is = sym (take-append_seam line rest) ∙ ap (λ (x : ℕ). take x (line ++ rest)) z ∙ ap (take n) (sym both) ∙ row_is_slice n i w inside;
      rest_is = sym (drop-append_seam line rest) ∙ ap (λ (x : ℕ). drop x (line ++ rest)) z ∙ ap (drop n) (sym both) ∙ drop-drop n (i * n) w ∙ ap (λ (x : ℕ). drop x w) (sym far);
    }

-- the first rows were taken, done in number, each of the size n: rest is left
pub record Passed (n size done : ℕ) (w rest : List ℕ) : Type 0 where
  pub size_is : size ≡ n
  pub rest_is : rest ≡ drop (done * n) w

pub passed_next : {n size i : ℕ} {w left line rest : List ℕ} → 0 < size → Passed n size i w left → left ≡ line ++ rest → length line ≡ size → Next n i w line rest
passed_next {n} {size} {i} {w} {left} {line} {rest} pos h f z = next_row n i w left line rest (omega (arith, h.size_is)) h.rest_is f (z ∙ h.size_is)

pub passed_all : {n size i : ℕ} {w rest : List ℕ} → Passed n size i w rest → length rest < size → (k : ℕ) → k * n + n ≤ length w → k < i
passed_all {n} {size} {i} {w} {rest} h few k l =
    elim (cases_lt k i) [
      | inl p ↦ p
      | inr p ↦ absurd (omega (arith, h.size_is, ap length h.rest_is, length-drop (i * n) w, mul-le-mul_right n p))
    ]

-- a row that fits in the grid is one of its rows
pub row_within : (n k i : ℕ) → 0 < n → k * n + n ≤ i * n → k < i
row_within n k i pos h =
    elim (cases_lt k i) [
      | inl p ↦ p
      | inr p ↦ absurd (omega (arith, mul-le-mul_right n p))
    ]

-- one row more is written, each at a place of its own
pub rows_more : (P : ℕ → List ℕ → Type 0) (at : ℕ → ℕ) (n high l p m : ℕ) (xs ys : List ℕ) → p ≡ at l → m ≡ n → length ys ≡ length (take m (drop (p * n) xs)) → length xs ≡ high * n
    → ((k : ℕ) → k < l + 1 → at k < high) → ((k : ℕ) → k < l → at k ≢ at l)
    → ((k : ℕ) → k < l → P k (row n xs (at k))) → P l ys → (k : ℕ) → k < l + 1 → P k (row n (put_mid (p * n) m xs ys) (at k))
rows_more P at n high l p m xs ys e z same size inside other before here =
    let fits : (k : ℕ) → k < l + 1 → at k * n + n ≤ length xs = λ k h. omega (arith, row_end n (at k) high (inside k h), size) in
    let put : p * n + m ≤ length xs = omega (arith, fits l (omega arith), ap (λ (x : ℕ). x * n) e) in
    let long : length ys ≡ m = omega (arith, same, length-take m (drop (p * n) xs), length-drop (p * n) xs) in
    below_more (λ k. P k (row n (put_mid (p * n) m xs ys) (at k))) l
    (λ k h. subst (P k) (sym (row_other n p (at k) m xs ys (λ q. other k h (q ∙ e)) z put (fits k (omega arith)) long)) (before k h))
    (subst (λ (x : ℕ). P l (row n (put_mid (p * n) m xs ys) x)) e (subst (P l) (sym (row_same n p m xs ys z put long)) here))

-- the working cells after a call worked on the first of them, and wiped those
pub wiped : (w m : ℕ) (xs ys zs : List ℕ) → w ≡ m → w ≤ length xs → length ys ≡ length (take w xs) → zs ≡ zeroed w (ys ++ drop w xs) → zs ≡ zeroed m xs
wiped w m xs ys zs p h long e =
    let z : w ≡ w - 0 = omega arith in
    wiped_part w m xs ys zs p (omega (arith, long, length-take w xs)) h (e ∙ ap (λ (x : ℕ). zeroed w (ys ++ drop x xs)) z)
