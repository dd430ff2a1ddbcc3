-- Rows of cells: what stands at each place tells a row. Assumes nothing.
use Rattle.std.proofs.Common.{◌≡◌, ℕ, zero, suc, ◌+◌, ◌-◌, ◌<◌, ◌≤◌, min, Bool, true, false, cond, ◌≢◌, ◌⊎◌, List, [], ◌∷◌, ◌++◌, length, get_or, drop, replicate, sym, refl, ap, ◌∙◌, inl, inr, ⊎_elim, le_of_suc-le-suc, not-suc-le-zero, arith, length-append}
use lib.ListN.{length-replicate, get_or-replicate}
use Rattle.std.specs.List.{prefix_len}
use Rattle.std.proofs.lemmas.List.{drop_at, drop_all, append-nil, ext_get_or, get_or_past}
use Rattle.std.proofs.lemmas.Bool.{cases_eq, cases_lt}
use Rattle.std.proofs.lemmas.List.FromFn.{length-map-range_with_len, get_or-map-range_with_len, fill_by_all}
use Rattle.code.specs.Cells.{listed, zeroed}
use Rattle.code.specs.Codes.{Layout, Carries, taken}

pub filled : (n v : ℕ) (xs : List ℕ) → n ≡ length xs → replicate n v ++ drop n xs ≡ replicate (length xs) v
filled n v xs e =
    let past : length xs ≤ n = omega arith in
    ap (λ ys. replicate n v ++ ys) (drop_all n xs past) ∙ append-nil (replicate n v) ∙ ap (λ m. replicate m v) e

-- ---- a row by its places
pub length-listed : (n : ℕ) (f : ℕ → ℕ) → length (listed n f) ≡ n
length-listed n f = length-map-range_with_len f 0 n

pub get_or-listed : (n : ℕ) (f : ℕ → ℕ) (i : ℕ) → i < n → get_or (listed n f) i 0 ≡ f i
get_or-listed n f i h = get_or-map-range_with_len f 0 n i i 0 h (omega arith)

pub is_listed : (n : ℕ) (f : ℕ → ℕ) (w : List ℕ) → length w ≡ n → ((i : ℕ) → i < n → get_or w i 0 ≡ f i) → w ≡ listed n f
is_listed n f w e h = fill_by_all f w n 0 e h

pub listed_same : (n : ℕ) (f g : ℕ → ℕ) → ((i : ℕ) → i < n → f i ≡ g i) → listed n f ≡ listed n g
listed_same n f g h = is_listed n g (listed n f) (length-listed n f) (λ i l. get_or-listed n f i l ∙ h i l)

pub listed-get_or : (n : ℕ) (w : List ℕ) → length w ≡ n → listed n (λ i. get_or w i 0) ≡ w
listed-get_or n w e = sym (is_listed n (λ i. get_or w i 0) w e (λ i l. refl))

pub constant_listed : (n v : ℕ) → replicate n v ≡ listed n (λ i. v)
constant_listed n v = is_listed n (λ i. v) (replicate n v) (length-replicate n v) (λ i h. get_or-replicate n i v 0 h)

-- a row of n cells that are all v
pub constant : (n v : ℕ) (xs : List ℕ) → length xs ≡ n → ((i : ℕ) → i < n → get_or xs i 0 ≡ v) → xs ≡ replicate n v
constant n v xs e h = is_listed n (λ i. v) xs e h ∙ sym (constant_listed n v)

pub listed_constant : (n v : ℕ) (f : ℕ → ℕ) → ((i : ℕ) → i < n → f i ≡ v) → listed n f ≡ replicate n v
listed_constant n v f h = listed_same n f (λ i. v) h ∙ sym (constant_listed n v)

-- cells past the end are 0, so below q too
pub low_cells : (q n : ℕ) (w : List ℕ) → 0 < q → length w ≡ n → ((i : ℕ) → i < n → get_or w i 0 < q) → (i : ℕ) → get_or w i 0 < q
low_cells q n w z e h i =
    elim (cases_lt i n) [ inl l ↦ h i l | inr g ↦ rw (get_or_past w i 0 (omega arith)) z ]

-- ---- two rows agree, or differ at a place
pub agree_or_differ : (n : ℕ) (f g : ℕ → ℕ) → ((i : ℕ) → i < n → f i ≡ g i) ⊎ ((i : ℕ) × (i < n) × (f i ≢ g i))
agree_or_differ zero f g = inl (λ i l. omega arith)
agree_or_differ (suc n) f g =
    elim (cases_eq (f n) (g n)) [
      | inl e ↦ elim (agree_or_differ n f g) [
        | inl all ↦ inl (λ i l. elim (cases_eq i n) [ inl q ↦ omega (arith, ap f q, ap g q) | inr ne ↦ all i (omega arith) ])
        | inr r ↦ inr (r.0, omega (arith, r.1), r.2)
      ]
      | inr ne ↦ inr (n, omega arith, ne)
    ]

pub where_differ : (n : ℕ) (u v : List ℕ) → length u ≡ n → length v ≡ n → u ≢ v → (i : ℕ) × (i < n) × (get_or u i 0 ≢ get_or v i 0)
where_differ n u v p q ne =
    elim (agree_or_differ n (λ i. get_or u i 0) (λ i. get_or v i 0)) [
      | inl all ↦ absurd (ne (ext_get_or 0 u v (p ∙ sym q) (λ i l. all i (omega arith))))
      | inr r ↦ r
    ]

pub listed_differ : (n : ℕ) (f g : ℕ → ℕ) (i : ℕ) → i < n → f i ≢ g i → listed n f ≢ listed n g
listed_differ n f g i l ne e = ne (sym (get_or-listed n f i l) ∙ ap (λ w. get_or w i 0) e ∙ get_or-listed n g i l)

-- ---- smudges
front : (b : Bool) (n m : ℕ) → suc n ≤ cond b (1 + m) 0 → (b ≡ true) × (n ≤ m)
front true n m h = (refl, omega arith)
front false n m h = absurd (not-suc-le-zero h)

-- where no cell is a smudge, each is good
pub each_good : (p : ℕ → Bool) (xs : List ℕ) → length xs ≤ prefix_len p xs → (i : ℕ) → i < length xs → p (get_or xs i 0) ≡ true
each_good p [] h i l = absurd (not-suc-le-zero l)
each_good p (x ∷ xs) h zero l = (front (p x) (length xs) (prefix_len p xs) h).0
each_good p (x ∷ xs) h (suc i) l = each_good p xs (front (p x) (length xs) (prefix_len p xs) h).1 i (le_of_suc-le-suc l)

-- ---- working cells set back to zero
pub zeroed-front : (m : ℕ) (w : List ℕ) → m ≤ length w → zeroed m w ≡ replicate m 0 ++ drop m w
zeroed-front zero w h = refl
zeroed-front (suc m) [] h = absurd (not-suc-le-zero h)
zeroed-front (suc m) (x ∷ w) h = ap (λ ys. 0 ∷ ys) (zeroed-front m w (le_of_suc-le-suc h))

-- more than there are is all
pub zeroed-all : (m : ℕ) (w : List ℕ) → length w ≤ m → zeroed m w ≡ zeroed (length w) w
zeroed-all zero [] h = refl
zeroed-all zero (x ∷ w) h = absurd (not-suc-le-zero h)
zeroed-all (suc m) [] h = refl
zeroed-all (suc m) (x ∷ w) h = ap (λ ys. 0 ∷ ys) (zeroed-all m w (le_of_suc-le-suc h))

pub zeroed_min : (m : ℕ) (w : List ℕ) → zeroed m w ≡ replicate (min m (length w)) 0 ++ drop (min m (length w)) w
zeroed_min m w =
    elim (cases_lt m (length w)) [
      | inl l ↦ let e : min m (length w) ≡ m = omega arith in rw e (zeroed-front m w (omega arith))
      | inr g ↦ let e : min m (length w) ≡ length w = omega arith in rw e (zeroed-all m w g ∙ zeroed-front (length w) w (omega arith))
    ]

-- ---- two rows are equal or not
pub equal_or_not : (u v : List ℕ) → (u ≡ v) ⊎ (u ≢ v)
equal_or_not [] [] = inl refl
equal_or_not [] (y ∷ v) = inr (λ e. let z : ◌≡◌ {A = ℕ} 0 1 = cc in omega arith)
equal_or_not (x ∷ u) [] = inr (λ e. let z : ◌≡◌ {A = ℕ} 0 1 = cc in omega arith)
equal_or_not (x ∷ u) (y ∷ v) =
    ⊎_elim
    (λ e. ⊎_elim (λ f. inl (cc)) (λ f. inr (λ g. let h : u ≡ v = cc in f h)) (equal_or_not u v))
    (λ f. inr (λ g. let h : x ≡ y = cc in f h)) (cases_eq x y)

-- what stood in the cells that are zeroed does not matter
pub zeroed-over : (n : ℕ) (xs w : List ℕ) → length xs ≡ n → n ≤ length w → zeroed n (xs ++ drop (n - 0) w) ≡ zeroed n w
zeroed-over n xs w e h =
    let z : n - 0 ≡ n = omega arith in
    let room : n ≤ length (xs ++ drop (n - 0) w) = omega (arith, length-append xs (drop (n - 0) w)) in
    zeroed-front n (xs ++ drop (n - 0) w) room
    ∙ ap (λ ys. replicate n 0 ++ ys) (drop_at xs (drop (n - 0) w) n e ∙ ap (λ j. drop j w) z)
    ∙ sym (zeroed-front n w h)

-- taking out what was encoded gives the message
pub taken_encoded : (l : Layout) (m w : List ℕ) → length m ≡ l.k → Carries l m w → taken l w ≡ m
taken_encoded l m w sized carries = sym (is_listed l.k (λ i. get_or w (l.place i) 0) m sized (λ i h. sym (carries i h)))
