-- The product of two linear codes is linear: what encodes a message row by row and then column by column, and that nothing else carries it. Assumes nothing.
use Rattle.std.proofs.Common.{◌≡◌, ℕ, ◌+◌, ◌*◌, ◌/◌, ◌%◌, ◌<◌, List, length, get_or, replicate, sym, ap, ◌∙◌, subst, ap₂, mul-le-mul, arith}
use lib.Arith.{digits_lt}
use Rattle.std.proofs.lemmas.Nat.{div-add-mod', div-mul-add, mod-mul-add}
use Rattle.code.specs.Cells.{listed}
use Rattle.alphabet.specs.Rings.{Ring}
use Rattle.code.specs.Codes.{Codebook, Layout, Apart, Linear, Message, Carries, taken}
use Rattle.alphabet.specs.Sums.{added}
use Rattle.algebra.specs.Grids.{row, column, Grid, grids, laid}
use Rattle.algebra.specs.Parts.{Printed, Symbols}
use Rattle.code.proofs.Rows.{length-listed, get_or-listed, listed_same, listed-get_or, constant_listed, low_cells}
use Rattle.alphabet.proofs.Symbols.{zero_in}
use Rattle.algebra.proofs.Grids.{parts_in, row_at, column_at, grid_listed, same_columns}
use Rattle.alphabet.proofs.Additions.{added_same}
use Rattle.algebra.proofs.Messages.{encoded_taken, nought_word, combined-word, unit-word, unit_is_word, expanded}

-- ---- the message by its rows
module _ (b : Codebook) (la lb : Layout) (inside : (i : ℕ) → i < lb.k → lb.place i < b.n) (m g : List ℕ) where
  -- a grid carries m if the rows at the first code's places carry the rows of m
  pub carries_rows : ((l : ℕ) → l < la.k → Carries lb (row lb.k m l) (row b.n g (la.place l))) → Carries (laid b la lb) m g
  carries_rows h i k =
      let at = parts_in la.k lb.k i k in
      let l = i / lb.k in
      let c = i % lb.k in
      sym (row_at b.n g (la.place l) (lb.place c) (inside c at.1))
      ∙ h l at.0 c at.1
      ∙ row_at lb.k m l c at.1
      ∙ ap (λ x. get_or m x 0) (div-add-mod' i lb.k)

  pub rows_carry : Carries (laid b la lb) m g → (l : ℕ) → l < la.k → Carries lb (row lb.k m l) (row b.n g (la.place l))
  rows_carry h l k c d =
      row_at b.n g (la.place l) (lb.place c) (inside c d)
      ∙ sym (ap₂ (λ x y. get_or g (la.place x * b.n + lb.place y) 0) (div-mul-add l lb.k c d) (mod-mul-add l lb.k c d))
      ∙ h (l * lb.k + c) (digits_lt k d)
      ∙ sym (row_at lb.k m l c d)

-- ---- the product of two linear codes over one ring
module _ {a b : Codebook} {la lb : Layout} {q : ℕ} {add mul : ℕ → ℕ → ℕ} {neg : ℕ → ℕ} (ring : Ring q add neg mul) (qa : a.q ≡ q) (qb : b.q ≡ q)
    (pa : Apart a) (pb : Apart b) (ll : Linear a la add mul) (lr : Linear b lb add mul) where
  r : Ring a.q add neg mul
  r = subst (λ x. Ring x add neg mul) (sym qa) ring

  same : b.q ≡ a.q
  same = qb ∙ sym qa

  -- every cell of a word, and past it
  low_a : (w : List ℕ) → a.Word w → (i : ℕ) → get_or w i 0 < a.q
  low_a w h = low_cells a.q a.n w (zero_in r) (pa.sized w h) (pa.symbols w h)

  low_b : (w : List ℕ) → b.Word w → (i : ℕ) → get_or w i 0 < a.q
  low_b w h = low_cells a.q b.n w (zero_in r) (pb.sized w h) (λ i l. rw same at (pb.symbols w h i l))

  -- the columns of g are words whose message symbols are those of the words R: then each row is made of the words R
  module _ (g : List ℕ) (R : ℕ → List ℕ) (columns : (j : ℕ) → j < b.n → a.Word (column a.n b.n g j)) (words : (l : ℕ) → l < la.k → b.Word (R l))
      (stand : (l j : ℕ) → l < la.k → j < b.n → get_or g (la.place l * b.n + j) 0 ≡ get_or (R l) j 0) where
    cell : (i j : ℕ) → i < a.n → j < b.n → get_or g (i * b.n + j) 0 ≡ added add la.k (λ l. mul (get_or (unit-word r pa ll l) i 0) (get_or (R l) j 0))
    cell i j h k =
        let E : ℕ → List ℕ = unit-word r pa ll in
        let c = column a.n b.n g j in
        sym (column_at a.n b.n g i j h)
        ∙ ap (λ w. get_or w i 0) (expanded r pa ll c (columns j k))
        ∙ get_or-listed a.n (λ y. added add la.k (λ l. mul (get_or c (la.place l) 0) (get_or (E l) y 0))) i h
        ∙ added_same add la.k _ _ (λ l d.
        ap (λ x. mul x (get_or (E l) i 0)) (column_at a.n b.n g (la.place l) j (ll.inside l d) ∙ stand l j d k)
        ∙ r.mul_comm (get_or (R l) j 0) (get_or (E l) i 0) (low_b (R l) (words l d) j) (low_a (E l) (unit_is_word r pa ll l) i))

    pub row_word : (i : ℕ) → i < a.n → b.Word (row b.n g i)
    row_word i h =
        let E : ℕ → List ℕ = unit-word r pa ll in
        subst b.Word (listed_same b.n _ _ (λ j k. sym (cell i j h k)))
        (combined-word b lb add mul lr la.k (λ l. get_or (E l) i 0) R (λ l d. omega (arith, same, low_a (E l) (unit_is_word r pa ll l) i)) words)

  -- what a program makes that encodes each row of the message by b, giving R, and then each column by a
  pub encoded : (m g : List ℕ) (R : ℕ → List ℕ) → length g ≡ a.n * b.n
      → ((l : ℕ) → l < la.k → b.Word (R l)) → ((l : ℕ) → l < la.k → Carries lb (row lb.k m l) (R l))
      → ((j : ℕ) → j < b.n → a.Word (column a.n b.n g j))
      → ((j : ℕ) → j < b.n → Carries la (listed la.k (λ l. get_or (R l) j 0)) (column a.n b.n g j))
      → Grid a b g × Carries (laid b la lb) m g
  encoded m g R e words carry columns made =
      let stand : (l j : ℕ) → l < la.k → j < b.n → get_or g (la.place l * b.n + j) 0 ≡ get_or (R l) j 0 =
      λ l j h k. sym (column_at a.n b.n g (la.place l) j (ll.inside l h)) ∙ made j k l h ∙ get_or-listed la.k (λ l. get_or (R l) j 0) l h in
      let rows_are : (l : ℕ) → l < la.k → R l ≡ row b.n g (la.place l) =
      λ l h. sym (listed_same b.n _ _ (λ j k. stand l j h k) ∙ listed-get_or b.n (R l) (pb.sized (R l) (words l h))) in (
        record { sized = e; columns = columns; rows = row_word g R columns words stand },
        carries_rows b la lb lr.inside m g (λ l h. subst (Carries lb (row lb.k m l)) (rows_are l h) (carry l h)),
      )

  -- the same for the grid h in which only the rows at the first code's places are filled in, and the grid g after its columns
  pub encoded_grid : (m h g : List ℕ) → length g ≡ a.n * b.n
      → ((l : ℕ) → l < la.k → b.Word (row b.n h (la.place l))) → ((l : ℕ) → l < la.k → Carries lb (row lb.k m l) (row b.n h (la.place l)))
      → ((j : ℕ) → j < b.n → a.Word (column a.n b.n g j))
      → ((j : ℕ) → j < b.n → Carries la (listed la.k (λ l. get_or h (la.place l * b.n + j) 0)) (column a.n b.n g j))
      → Grid a b g × Carries (laid b la lb) m g
  encoded_grid m h g e words carry columns made =
      encoded m g (λ l. row b.n h (la.place l)) e words carry columns
      (λ j k. subst (λ x. Carries la x (column a.n b.n g j)) (listed_same la.k _ _ (λ l d. sym (row_at b.n h (la.place l) j k))) (made j k))

  -- ---- the fields of Linear
  product_inside : (i : ℕ) → i < la.k * lb.k → (laid b la lb).place i < a.n * b.n
  product_inside i h = let at = parts_in la.k lb.k i h in digits_lt (ll.inside _ at.0) (lr.inside _ at.1)

  product_distinct : (i j : ℕ) → i < la.k * lb.k → j < la.k * lb.k → (laid b la lb).place i ≡ (laid b la lb).place j → i ≡ j
  product_distinct i j h k e =
      let n = b.n in
      let x = parts_in la.k lb.k i h in
      let y = parts_in la.k lb.k j k in
      let ix = lr.inside _ x.1 in
      let iy = lr.inside _ y.1 in
      let rows : i / lb.k ≡ j / lb.k =
      ll.distinct _ _ x.0 y.0 (sym (div-mul-add (la.place (i / lb.k)) n _ ix) ∙ ap (λ z. z / n) e ∙ div-mul-add (la.place (j / lb.k)) n _ iy) in
      let columns : i % lb.k ≡ j % lb.k =
      lr.distinct _ _ x.1 y.1 (sym (mod-mul-add (la.place (i / lb.k)) n _ ix) ∙ ap (λ z. z % n) e ∙ mod-mul-add (la.place (j / lb.k)) n _ iy) in
      sym (div-add-mod' i lb.k) ∙ ap₂ (λ z t. z * lb.k + t) rows columns ∙ div-add-mod' j lb.k

  product_nought : Grid a b (replicate (a.n * b.n) 0)
  product_nought =
      subst (Grid a b) (sym (constant_listed (a.n * b.n) 0))
      (grid_listed a b (λ k. 0) (λ j h. nought_word a la add mul ll) (λ i h. nought_word b lb add mul lr))

  product_sums : (u v : List ℕ) → Grid a b u → Grid a b v → Grid a b (listed (a.n * b.n) (λ k. add (get_or u k 0) (get_or v k 0)))
  product_sums u v g h =
      grid_listed a b (λ k. add (get_or u k 0) (get_or v k 0))
      (λ j l. subst a.Word (listed_same a.n _ _ (λ i d. ap₂ add (column_at a.n b.n u i j d) (column_at a.n b.n v i j d)))
      (ll.sums _ _ (g.columns j l) (h.columns j l)))
      (λ i l. subst b.Word (listed_same b.n _ _ (λ j d. ap₂ add (row_at b.n u i j d) (row_at b.n v i j d)))
      (lr.sums _ _ (g.rows i l) (h.rows i l)))

  product_multiples : (c : ℕ) (u : List ℕ) → c < a.q → Grid a b u → Grid a b (listed (a.n * b.n) (λ k. mul c (get_or u k 0)))
  product_multiples c u low g =
      grid_listed a b (λ k. mul c (get_or u k 0))
      (λ j l. subst a.Word (listed_same a.n _ _ (λ i d. ap (mul c) (column_at a.n b.n u i j d))) (ll.multiples c _ low (g.columns j l)))
      (λ i l. subst b.Word (listed_same b.n _ _ (λ j d. ap (mul c) (row_at b.n u i j d))) (lr.multiples c _ (rw same low) (g.rows i l)))

  module _ (m : List ℕ) (M : Message a.q (la.k * lb.k) m) where
    -- row l of the message, 0s past the last
    row_message : (l : ℕ) → Message b.q lb.k (row lb.k m l)
    row_message l = record {
      sized = length-listed lb.k (λ j. get_or m (l * lb.k + j) 0);
      symbols = λ j h. rw (row_at lb.k m l j h, same) (low_cells a.q (la.k * lb.k) m (zero_in r) M.sized M.symbols (l * lb.k + j));
    }

    abbrev row_code : ℕ → List ℕ
    row_code l = (lr.carried (row lb.k m l) (row_message l)).0

    row_code_word : (l : ℕ) → b.Word (row_code l)
    row_code_word l = (lr.carried (row lb.k m l) (row_message l)).1.0

    column_message : (j : ℕ) → Message a.q la.k (listed la.k (λ l. get_or (row_code l) j 0))
    column_message j = record {
      sized = length-listed la.k (λ l. get_or (row_code l) j 0);
      symbols = λ l h. rw (get_or-listed la.k (λ l. get_or (row_code l) j 0) l h) (low_b (row_code l) (row_code_word l) j);
    }

    product-carried : (w : List ℕ) × (Grid a b w × Carries (laid b la lb) m w)
    product-carried =
        let C : ℕ → List ℕ = λ j. (ll.carried (listed la.k (λ l. get_or (row_code l) j 0)) (column_message j)).0 in
        let F : ℕ → ℕ = λ k. get_or (C (k % b.n)) (k / b.n) 0 in
        let g = listed (a.n * b.n) F in
        let word : (j : ℕ) → a.Word (C j) = λ j. (ll.carried (listed la.k (λ l. get_or (row_code l) j 0)) (column_message j)).1.0 in
        let is : (j : ℕ) → j < b.n → C j ≡ column a.n b.n g j =
        λ j h. sym (
        listed_same a.n _ _ (λ i d.
        get_or-listed (a.n * b.n) F (i * b.n + j) (digits_lt d h)
        ∙ ap₂ (λ x y. get_or (C x) y 0) (mod-mul-add i b.n j h) (div-mul-add i b.n j h))
        ∙ listed-get_or a.n (C j) (pa.sized (C j) (word j))) in (
          g,
          encoded m g row_code (length-listed (a.n * b.n) F)
              (λ l h. row_code_word l)
              (λ l h. (lr.carried (row lb.k m l) (row_message l)).1.1)
              (λ j h. subst a.Word (is j h) (word j))
              (λ j h. subst (Carries la (listed la.k (λ l. get_or (row_code l) j 0))) (is j h) (ll.carried (listed la.k (λ l. get_or (row_code l) j 0)) (column_message j)).1.1),
        )

    product_once : (u v : List ℕ) → Grid a b u → Grid a b v → Carries (laid b la lb) m u → Carries (laid b la lb) m v → u ≡ v
    product_once u v g h cu cv =
        let rows_are : (l : ℕ) → l < la.k → row b.n v (la.place l) ≡ row b.n u (la.place l) =
        λ l k. lr.once (row lb.k m l) _ _ (row_message l) (h.rows _ (ll.inside l k)) (g.rows _ (ll.inside l k))
        (rows_carry b la lb lr.inside m v cv l k) (rows_carry b la lb lr.inside m u cu l k) in
        same_columns a.n b.n u v g.sized h.sized (λ j k.
        let U = column a.n b.n u j in
        sym (encoded_taken a la add mul pa ll U (column a.n b.n v j) (g.columns j k) (h.columns j k) (λ l d.
        column_at a.n b.n v (la.place l) j (ll.inside l d)
        ∙ sym (row_at b.n v (la.place l) j k)
        ∙ ap (λ w. get_or w j 0) (rows_are l d)
        ∙ row_at b.n u (la.place l) j k
        ∙ sym (column_at a.n b.n u (la.place l) j (ll.inside l d))
        ∙ sym (get_or-listed la.k (λ l. get_or U (la.place l) 0) l d))))

  pub product_linear : Linear (grids a b) (laid b la lb) add mul
  product_linear = record {
    few = mul-le-mul ll.few lr.few;
    inside = product_inside;
    distinct = product_distinct;
    nought = product_nought;
    sums = product_sums;
    multiples = product_multiples;
    carried = product-carried;
    once = λ m u v M. product_once m M u v;
  }

-- ---- what a program prints: h after its rows, g after its columns
module _ {a b : Codebook} {la lb : Layout} {q : ℕ} {add mul : ℕ → ℕ → ℕ} {neg : ℕ → ℕ} (ring : Ring q add neg mul) (qa : a.q ≡ q) (qb : b.q ≡ q)
    (pa : Apart a) (pb : Apart b) (ll : Linear a la add mul) (lr : Linear b lb add mul) (m h : List ℕ)
    (rows : (l : ℕ) → l < la.k → Printed b lb (row lb.k m l) (row b.n h (la.place l))) where
  stands : (j l : ℕ) → l < la.k → get_or (column a.n b.n h j) (la.place l) 0 ≡ get_or h (la.place l * b.n + j) 0
  stands j l d = column_at a.n b.n h (la.place l) j (ll.inside l d)

  pub printed_symbols : (j : ℕ) → j < b.n → Symbols a.q (taken la (column a.n b.n h j))
  printed_symbols j k i d =
      let f : ℕ → ℕ = λ l. get_or (column a.n b.n h j) (la.place l) 0 in
      let i' : i < la.k = omega (arith, length-listed la.k f, d) in
      omega (arith, get_or-listed la.k f i i', stands j i i', row_at b.n h (la.place i) j k, pb.symbols _ (rows i i').0 j k, qa, qb)

  pub printed_grid : (g : List ℕ) → length g ≡ a.n * b.n
      → ((j : ℕ) → j < b.n → Printed a la (taken la (column a.n b.n h j)) (column a.n b.n g j))
      → Printed (grids a b) (laid b la lb) m g
  printed_grid g e columns =
      encoded_grid ring qa qb pa pb ll lr m h g e (λ l d. (rows l d).0) (λ l d. (rows l d).1) (λ j k. (columns j k).0)
      (λ j k. subst (λ x. Carries la x (column a.n b.n g j)) (listed_same la.k _ _ (stands j)) (columns j k).1)
