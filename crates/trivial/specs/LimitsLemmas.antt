-- The trivial code shows the laws, and so does a code that falls back on it. Assumes nothing.
use Rattle.std.specs.Prelude.{◌≡◌, ℕ, ◌<◌, ◌≤◌, Bool, true, false, List, [], ◌∷◌, length, set, ◌≢◌, slice_index, slice_set, refl}
use Rattle.std.proofs.Common.{sym, ap, subst, ◌∙◌, not-suc-le-zero, arith, lit<, lit≤}
use Rattle.std.proofs.lemmas.Bool.Decides.{nat_tests}
use Rattle.code.specs.Cells.{cost}
use Rattle.code.specs.Calls.{Within, Beyond}
use Rattle.alphabet.specs.Rings.{Ring}
use Rattle.code.specs.Codes.{Codebook, Layout, Apart, Linear}
use Rattle.alphabet.proofs.Symbols.{zero_in, mul-zero}
use Rattle.trivial.specs.Limits.{trivial, no_message, limited, limited_layout}

-- a row of one cell
pub one_cell : (xs : List ℕ) → length xs ≡ 1 → xs ≡ slice_index xs 0 ∷ []
one_cell [] e = let z : ◌≡◌ {A = ℕ} 0 1 = e in absurd (omega arith)
one_cell (x ∷ []) e = refl
one_cell (x ∷ y ∷ ys) e = absurd (omega arith)

pub put_one : (xs : List ℕ) (v : ℕ) → length xs ≡ 1 → slice_set xs 0 v ≡ v ∷ []
put_one xs v e = ap (λ ys. set ys 0 v) (one_cell xs e)

pub trivial_linear : {q : ℕ} {add : ℕ → ℕ → ℕ} {neg : ℕ → ℕ} {mul : ℕ → ℕ → ℕ} → Ring q add neg mul → Linear (trivial q) no_message add mul
trivial_linear {q} {add} {neg} {mul} r = record {
  few = omega arith;
  inside = λ i h. absurd (not-suc-le-zero h);
  distinct = λ i j h. absurd (not-suc-le-zero h);
  nought = refl;
  sums = λ u v eu ev. rw (eu, ev) (ap (λ x. x ∷ []) (r.add-zero 0 (zero_in r)));
  multiples = λ a u h eu. rw eu (ap (λ x. x ∷ []) (mul-zero r a h));
  carried = λ m s. (0 ∷ [], (refl, λ i h. absurd (not-suc-le-zero h)));
  once = λ m u v s eu ev hu hv. eu ∙ sym ev;
}

pub trivial_hit : (q : ℕ) (r a' : List ℕ) → r ≡ 0 ∷ [] → a' ≡ 0 ∷ [] → Within (trivial q) r a' (record { wrong = 0; blank = 0 })
trivial_hit q r a' er ea =
    rw (er, ea) (record { word = refl; reach = lit< tt; wrong = refl; blank = refl; others = λ v wv ne. absurd (ne wv) })

costly : (x : ℕ) → (x ≢ 0) → 1 ≤ cost (x ∷ []) (0 ∷ [])
costly x ne = grind (arith, nat_tests)

pub trivial_lost : (q : ℕ) (r : List ℕ) → length r ≡ 1 → (slice_index r 0 ≢ 0) → Beyond (trivial q) r
trivial_lost q r e ne v ev =
    subst (λ (u : List ℕ). 1 ≤ cost r u) (sym ev) (subst (λ (t : List ℕ). 1 ≤ cost t (0 ∷ [])) (sym (one_cell r e)) (costly (slice_index r 0) ne))

pub trivial_apart : (q : ℕ) → 0 < q → Apart (trivial q)
trivial_apart q h = record {
  positive = lit≤ tt;
  short = lit≤ tt;
  sized = λ w e. ap length e;
  symbols = λ w e i l. let z : i ≡ 0 = omega arith in subst (λ (u : List ℕ). slice_index u i < q) (sym e) (subst (λ (j : ℕ). slice_index (0 ∷ []) j < q) (sym z) h);
  apart = λ u v eu ev ne. absurd (ne (eu ∙ sym ev));
}

-- a code that falls back on the trivial zero shows the laws where its own shows them inside the limits
pub limited_apart : (b : Bool) (q : ℕ) (s : Codebook) → 0 < q → (b ≡ true → Apart s) → Apart (limited b q s)
limited_apart true q s h own = own refl
limited_apart false q s h own = trivial_apart q h

pub limited_linear : (b : Bool) {q : ℕ} {add : ℕ → ℕ → ℕ} {neg : ℕ → ℕ} {mul : ℕ → ℕ → ℕ} (s : Codebook) (l : Layout) → Ring q add neg mul → (b ≡ true → Linear s l add mul) → Linear (limited b q s) (limited_layout b l) add mul
limited_linear true s l r own = own refl
limited_linear false s l r own = trivial_linear r

pub limited_symbols : (b : Bool) (q : ℕ) (s : Codebook) → s.q ≡ q → (limited b q s).q ≡ q
limited_symbols true q s e = e
limited_symbols false q s e = refl
