-- What reading or judging one line tells, where the code is ready for it. Assumes nothing.
use Rattle.std.proofs.Common.{◌≡◌, ℕ, suc, ◌+◌, ◌-◌, ◌*◌, ◌<◌, ◌≤◌, Bool, true, false, cond, eqb, ltb, leb, ◌≢◌, List, [], ◌∷◌, length, get_or, Ok, Err, Result, sym, refl, ap, ◌∙◌, subst, inl, inr, arith}
use Rattle.std.specs.List.{prefix_len}
use Rattle.std.specs.Result.{result_unwrap_or}
use Rattle.std.proofs.lemmas.Bool.{cases_lt, cond_above, cond_both, le-ltb, lt-ltb, eq-eqb, leb-false, ltb-true, ltb-false, or_left, or_right, false≢true}
use Rattle.std.proofs.lemmas.Bool.Decides.{nat_tests}
use Rattle.code.specs.declared.cells.Content.{Content}
use Rattle.code.specs.declared.cells.Content.TheVariants.{Word, Received}
use Rattle.code.specs.declared.cells.Counts.{Counts}
use Rattle.code.specs.declared.refusals.Refusal.{Refusal}
use Rattle.code.specs.Cells.{good, blank, cost, listed}
use Rattle.code.specs.Codes.{Codebook, Layout, Apart, Carries}
use Rattle.algebra.specs.Grids.{row, column, grids}
use Rattle.code.specs.Refusals.{clean, then}
use Rattle.code.specs.Calls.{reads, found, Reads, judges, judged, Judges, encodes, Encodes, Within, Beyond}
use Rattle.code.proofs.Rows.{length-listed, get_or-listed, listed_same}
use Rattle.code.specs.Refusals.{Verdict}
use Rattle.code.proofs.Rows.{equal_or_not}
use Rattle.algebra.specs.Weights.{cut, heft, Found}
use Rattle.algebra.proofs.Averages.{some_cut}
use Rattle.algebra.proofs.Grids.{column_at, row_at}
use Rattle.algebra.specs.Parts.{Ready, Taken, Symbols, Weighed, Light, Heavy, HeavyAt, Tried, Renewed, Says}
use Rattle.algebra.proofs.Places.{at, side1, side2}
use Rattle.algebra.proofs.Sizes.{gauge}

-- ---- gates that are open
one_more : (b : Bool) (n m : ℕ) → b ≡ true → n ≤ m → suc n ≤ cond b (1 + m) 0
one_more true n m e h = omega arith
one_more false n m e h = absurd (false≢true e)

all_leading : (p : ℕ → Bool) (xs : List ℕ) → ((i : ℕ) → i < length xs → p (get_or xs i 0) ≡ true) → length xs ≤ prefix_len p xs
all_leading p [] h = omega arith
all_leading p (x ∷ xs) h =
    one_more (p x) (length xs) (prefix_len p xs) (h 0 (omega arith)) (all_leading p xs (λ i l. h (suc i) (omega arith)))

pub clean-passes : (p : ℕ → Bool) (xs : List ℕ) → ((i : ℕ) → i < length xs → p (get_or xs i 0) ≡ true) → ◌≡◌ {A = Verdict} (Ok tt) (clean p xs)
clean-passes p xs h = cond_above (prefix_len p xs) (length xs) _ (Ok tt) (Ok tt) (all_leading p xs h) refl

pub gauge-passes : (n room i i' a a' w w' : ℕ) → n ≤ 4096 → room ≤ 16384 → i ≡ i' → a ≡ a' → w' ≤ w → ◌≡◌ {A = Verdict} (Ok tt) (gauge n room i i' a a' w w')
gauge-passes n room i i' a a' w w' h1 h2 h3 h4 h5 =
    rw (le-ltb 4096 n h1, le-ltb 16384 room h2, eq-eqb i i' h3, eq-eqb a a' h4, le-ltb w w' h5) refl

then-passes : (v w : Verdict) → Ok tt ≡ v → Ok tt ≡ w → Ok tt ≡ then v w
then-passes v w p q = subst (λ (x : Verdict). ◌≡◌ {A = Verdict} (Ok tt) (then x w)) p q

pub read_passes : (s : Codebook) (r a a' k k' : List ℕ) (res : Result Counts Refusal) → Ready s (length r) (length k) → length a ≡ length r → Taken s.q r
    → Reads s r a a' k k' res → found s r a a' res
read_passes s r a a' k k' res ready e taken h =
    subst (λ (v : Verdict). reads v s r a a' res)
    (sym (then-passes _ _
    (gauge-passes s.n s.working (length r) s.n (length a) s.n (length k) s.working (omega (arith, ready.long, ready.short)) ready.roomy (sym ready.long) (e ∙ sym ready.long) ready.room)
    (clean-passes (good Received s.q) r taken)))
    h.answer

symbol_good : (t : Content) (q x : ℕ) → x < q → good t q x ≡ true
symbol_good Word q x h = lt-ltb x q h
symbol_good Received q x h = or_left (ltb x q) _ (lt-ltb x q h)

pub judge_passes : (s : Codebook) (r k k' : List ℕ) (res : Result Bool Refusal) → Ready s (length r) (length k) → Symbols s.q r
    → Judges s r k k' res → judged s r res
judge_passes s r k k' res ready low h =
    subst (λ (v : Verdict). judges v s r res)
    (sym (then-passes _ _
    (gauge-passes s.n s.working (length r) s.n 0 0 (length k) s.working (omega (arith, ready.long, ready.short)) ready.roomy (sym ready.long) refl ready.room)
    (clean-passes (good Word s.q) r (λ i l. symbol_good Word s.q (get_or r i 0) (low i l)))))
    h.answer

pub encode_passes : (s : Codebook) (l : Layout) (m a a' k k' : List ℕ) (res : Result (Unit {0}) Refusal) → Ready s (length a) (length k) → length m ≡ l.k → Symbols s.q m
    → Encodes s l m a a' k k' res → s.Word a' × Carries l m a'
encode_passes s l m a a' k k' res ready e low h =
    let told : encodes (Ok tt) s l m a a' res =
    subst (λ (v : Verdict). encodes v s l m a a' res)
    (sym (then-passes _ _
    (gauge-passes s.n s.working (length m) l.k (length a) s.n (length k) s.working (omega (arith, ready.long, ready.short)) ready.roomy e (sym ready.long) ready.room)
    (clean-passes (good Word s.q) m (λ i l. symbol_good Word s.q (get_or m i 0) (low i l)))))
    h.answer in
    (told.1, told.2)

pub ready_at : (s : Codebook) (n m l k : ℕ) → m ≡ n → k ≡ l → Ready s n l → Ready s m k
ready_at s n m l k p q h = record { long = h.long ∙ sym p; short = omega (arith, h.short); room = omega (arith, h.room); roomy = h.roomy; symbols = h.symbols }

pub good_symbols : (q p : ℕ) (r : List ℕ) → p ≡ q → ((i : ℕ) → i < length r → good Word p (get_or r i 0) ≡ true) → Symbols q r
good_symbols q p r e h i l = omega (arith, ltb-true (get_or r i 0) p (h i l), e)

pub row_symbols : (q n i : ℕ) (w part : List ℕ) → i * n + n ≤ length w → part ≡ row n w i → Symbols q w → Symbols q part
row_symbols q n i w part fits f h =
    subst (λ (x : List ℕ). Symbols q x) (sym f) (λ j k.
    let j' : j < n = omega (arith, length-listed n (λ j. get_or w (i * n + j) 0), k) in
    omega (arith, row_at n w i j j', h (i * n + j) (omega (arith, fits, j'))))

pub listed_symbols : (q n : ℕ) (f : ℕ → ℕ) (line : List ℕ) → line ≡ listed n f → ((i : ℕ) → i < n → f i < q) → Symbols q line
listed_symbols q n f line e h =
    subst (λ (x : List ℕ). Symbols q x) (sym e) (λ i k.
    let i' : i < n = omega (arith, length-listed n f, k) in omega (arith, get_or-listed n f i i', h i i'))

-- ---- a column
pub column-taken : (q n n2 : ℕ) (r line : List ℕ) (j : ℕ) → j < n2 → length r ≡ n * n2 → line ≡ column n n2 r j → Taken q r → Taken q line
column-taken q n n2 r line j l e f h =
    subst (λ (x : List ℕ). Taken q x) (sym f) (λ i k.
    let i' : i < n = omega (arith, length-listed n (λ i. get_or r (i * n2 + j) 0), k) in
    ap (good Received q) (column_at n n2 r i j i') ∙ h (i * n2 + j) (at e i' l))

pub column_symbols : (q n n2 : ℕ) (r line : List ℕ) (j : ℕ) → j < n2 → length r ≡ n * n2 → line ≡ column n n2 r j → Symbols q r → Symbols q line
column_symbols q n n2 r line j l e f h =
    subst (λ (x : List ℕ). Symbols q x) (sym f) (λ i k.
    let i' : i < n = omega (arith, length-listed n (λ i. get_or r (i * n2 + j) 0), k) in
    omega (arith, column_at n n2 r i j i', h (i * n2 + j) (at e i' l)))

pub found_word : (s : Codebook) (r x : List ℕ) (c : Counts) → Within s r x c → Found s r x (2 * c.wrong + c.blank)
found_word s r x c h =
    let e : cost r x ≡ 2 * c.wrong + c.blank = omega (arith, h.wrong, h.blank) in
    record { low = omega (arith, h.reach, e); word = λ l. h.word; weight = λ l. e; lost = λ z. absurd (omega (arith, h.reach, e, z)) }

pub found_none : (s : Codebook) (r x : List ℕ) (w : ℕ) → w ≡ s.d → Beyond s r → Found s r x w
found_none s r x w e h = record { low = omega (arith, e); word = λ l. absurd (omega (arith, e, l)); weight = λ l. absurd (omega (arith, e, l)); lost = λ z. h }

pub column-found : (s : Codebook) (n m n2 j w : ℕ) (r x line word : List ℕ) → line ≡ column n n2 r j → column m n2 x j ≡ word → m ≡ n → Found s line word w
    → Found s (column n n2 r j) (column n n2 x j) w
column-found s n m n2 j w r x line word e f z h =
    subst (λ (k : ℕ). Found s (column n n2 r j) (column k n2 x j) w) z
    (subst (λ (y : List ℕ). Found s (column n n2 r j) y w) (sym f) (subst (λ (l : List ℕ). Found s l word w) e h))

-- ---- a row
cut-good : (q t w x : ℕ) → (w < t → x < q) → good Received q (cond (leb t w) blank x) ≡ true
cut-good q t w x h =
    cond_both (leb t w) blank x (λ y. good Received q y ≡ true)
    (λ e. or_right (ltb blank q) (eqb blank blank) refl)
    (λ e. symbol_good Received q x (h (leb-false t w e)))

pub cut-taken : (s : Codebook) (d n t : ℕ) (ws x line : List ℕ) → s.n ≡ n → t ≤ d → Weighed s d ws x → line ≡ cut n (λ j. get_or ws j 0) x t → Taken s.q line
cut-taken s d n t ws x line z h wd f =
    subst (λ (y : List ℕ). Taken s.q y) (sym f) (λ i k.
    let F : ℕ → ℕ = λ j. cond (leb t (get_or ws j 0)) blank (get_or x j 0) in
    let i' : i < n = omega (arith, length-listed n F, k) in
    let i'' : i < s.n = omega arith in
    ap (good Received s.q) (get_or-listed n F i i') ∙ cut-good s.q t (get_or ws i 0) (get_or x i 0) (λ l. wd.symbols i i'' (omega arith)))

choose : (s : Codebook) (d : ℕ) (ws x : List ℕ) (t : ℕ) (y : List ℕ) (b : Bool) → (b ≡ true → Light s d ws x y) → (b ≡ false → HeavyAt s d ws x t) → Tried s d ws x t y b
choose s d ws x t y true p q = p refl
choose s d ws x t y false p q = q refl

pub tried : (s : Codebook) (d n t : ℕ) (ws x line word : List ℕ) (c : Counts) (h m : ℕ) → s.n ≡ n → line ≡ cut n (λ j. get_or ws j 0) x t
    → h ≡ heft n d (λ j. get_or ws j 0) x word → m ≡ s.d → Within s line word c → Tried s d ws x t word (ltb h (d * m))
tried s d n t ws x line word c h m z f e k w =
    let W : ℕ → ℕ = λ j. get_or ws j 0 in
    let weighs : h ≡ heft s.n d W x word = e ∙ ap (λ (y : ℕ). heft y d W x word) (sym z) in
    let limit : d * m ≡ d * s.d = ap (λ (y : ℕ). d * y) k in
    let same : line ≡ cut s.n W x t = f ∙ ap (λ (y : ℕ). cut y W x t) (sym z) in
    choose s d ws x t word (ltb h (d * m))
    (λ b. record { word = w.word; light = omega (arith, ltb-true h (d * m) b, weighs, limit) })
    (λ b v q l. elim (equal_or_not v word) [
      | inl eq ↦ omega (arith, ltb-false h (d * m) b, weighs, limit, ap (heft s.n d W x) eq)
      | inr ne ↦ absurd (omega (arith, w.others v q ne, ap (λ (y : List ℕ). cost y v) same, l))
    ])

pub tried_none : (s : Codebook) (d n t : ℕ) (ws x line : List ℕ) → s.n ≡ n → line ≡ cut n (λ j. get_or ws j 0) x t → Beyond s line → HeavyAt s d ws x t
tried_none s d n t ws x line z f h v q l =
    let W : ℕ → ℕ = λ j. get_or ws j 0 in
    let same : line ≡ cut s.n W x t = f ∙ ap (λ (y : ℕ). cut y W x t) (sym z) in
    absurd (omega (arith, h v q, ap (λ (y : List ℕ). cost y v) same, l))

-- each cut was tried: then no word is light
pub decoded_none : (s : Codebook) (d : ℕ) (ws x : List ℕ) → s.q ≤ blank → Weighed s d ws x → ((k : ℕ) → k < d → HeavyAt s d ws x (k + 1)) → Heavy s d ws x
decoded_none s d ws x small wd each v q =
    let W : ℕ → ℕ = λ j. get_or ws j 0 in
    elim (cases_lt (heft s.n d W x v) (d * s.d)) [
      | inl l ↦
          let r = some_cut s.n d W x wd.low (λ j h less z. omega (arith, wd.symbols j h less, z, small)) v s.d l in
          let k : ℕ = r.0 - 1 in
          let e : r.0 ≡ k + 1 = omega (arith, r.1) in
          absurd (omega (arith, l, each k (omega (arith, r.1, r.2)) v q (subst (λ (t : ℕ). cost (cut s.n W x t) v < s.d) e r.3)))
      | inr g ↦ g
    ]

-- ---- cuts that blank the same cells
same_cell : (t w x : ℕ) → (w ≡ t → ⊥) → cond (leb (t + 1) w) blank x ≡ cond (leb t w) blank x
same_cell t w x ne = grind (arith, nat_tests)

pub stale : (s : Codebook) (d : ℕ) (ws x : List ℕ) (t n : ℕ) → s.n ≡ n → 1 ≤ t → ((j : ℕ) → j < n → get_or ws j 0 ≢ t) → ((k : ℕ) → k < t → HeavyAt s d ws x (k + 1)) → HeavyAt s d ws x (t + 1)
stale s d ws x t n z pos none before v q l =
    let W : ℕ → ℕ = λ j. get_or ws j 0 in
    let k : ℕ = t - 1 in
    let e : t ≡ k + 1 = omega arith in
    let same : cut s.n W x (t + 1) ≡ cut s.n W x (k + 1) =
    listed_same s.n _ _ (λ j h. same_cell t (W j) (get_or x j 0) (none j (omega arith)))
    ∙ ap (λ (u : ℕ). cut s.n W x u) e in
    before k (omega arith) v q (omega (arith, l, ap (λ (y : List ℕ). cost y v) same))

pub renewed : (s : Codebook) (d : ℕ) (ws x : List ℕ) (t : ℕ) (y : List ℕ) (b : Bool) → Tried s d ws x (t + 1) y b → Renewed s d ws x t y b
renewed s d ws x t y true h = h
renewed s d ws x t y false h = λ before. h

-- ---- a verdict, and no where there is none
or_no : (s : Codebook) (r : List ℕ) (res : Result Bool Refusal) (b : Bool) → judged s r res → b ≡ result_unwrap_or res false → Says b (s.Word r)
or_no s r (Ok t) b h e = subst (λ (x : Bool). Says x (s.Word r)) (sym e) h
or_no s r (Err x) b h e = absurd h

pub judge_says : {s : Codebook} {r k k' : List ℕ} {res : Result Bool Refusal} {b : Bool} → Ready s (length r) (length k) → Symbols s.q r
    → Judges s r k k' res → b ≡ result_unwrap_or res false → Says b (s.Word r)
judge_says {s} {r} {k} {k'} {res} {b} ready low h e = or_no s r res b (judge_passes s r k k' res ready low h) e

-- ---- where a product is ready its factors are, on what is left of the working cells
module _ {a b : Codebook} (p : Apart a) (q : Apart b) {n lent : ℕ} (h : Ready (grids a b) n lent) where
  small : a.n * b.n ≤ 4096
  small = omega (arith, h.long, h.short)

  pub ready_columns : (m k : ℕ) → m ≡ a.n → a.working ≤ k → Ready a m k
  ready_columns m k e l = record {
    long = sym e;
    short = omega (arith, side1 a.n b.n 4096 (omega (arith, q.positive, q.short)) small);
    room = l;
    roomy = omega (arith, h.roomy);
    symbols = h.symbols;
  }

  pub ready_rows : a.q ≡ b.q → (m k : ℕ) → m ≡ b.n → b.working ≤ k → Ready b m k
  ready_rows same m k e l = record {
    long = sym e;
    short = omega (arith, side2 a.n b.n 4096 (omega (arith, p.positive, p.short)) small);
    room = l;
    roomy = omega (arith, h.roomy);
    symbols = omega (arith, h.symbols, same);
  }
