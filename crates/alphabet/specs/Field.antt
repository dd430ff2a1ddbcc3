-- The field of sixteen: shifts give its product, its product is the remainder, and it obeys the ring laws. Assumes nothing.
use Rattle.std.specs.Prelude.{◌≡◌, ℕ, ◌+◌, ◌*◌, ◌<◌, bit_xor, nat_eq, nat_lt}
use Rattle.std.proofs.Common.{eqb→eq, ltb→lt, lit≤}
use Rattle.alphabet.specs.Rings.{Ring}
use Rattle.alphabet.specs.Polynomials.{coefficient, product_coefficient, product, taken_off, reduced, Remainder, field_product}
use Rattle.alphabet.specs.Shifts.{raised, shifted_product}
use Rattle.alphabet.specs.Tested.{at, at_two, tested}

pub raised_below : (a : ℕ) → a < 16 → raised a < 16
raised_below a h = ltb→lt (raised a) 16 (at 16 (λ x. nat_lt (raised x) 16) tt a h)

-- shifts and exclusive or give the field's product
pub shifted : (a b : ℕ) → a < 16 → b < 16 → shifted_product a b ≡ field_product a b
unfolding product_coefficient product reduced field_product
shifted a b ha hb = eqb→eq _ _ (at_two 16 (λ x y. nat_eq (shifted_product x y) (field_product x y)) tt a b ha hb)

pub field_below : (a b : ℕ) → a < 16 → b < 16 → field_product a b < 16
unfolding product_coefficient product reduced field_product
field_below a b ha hb = ltb→lt _ _ (at_two 16 (λ x y. nat_lt (field_product x y) 16) tt a b ha hb)

-- the multiples that long division takes off
unfoldable quotient : ℕ → ℕ
quotient p = 4 * coefficient p 6 + 2 * coefficient (taken_off 2 p) 5 + coefficient (taken_off 1 (taken_off 2 p)) 4

-- the field's product is the remainder of the product of polynomials
pub remains : (a b : ℕ) → a < 16 → b < 16 → Remainder (product a b) (field_product a b)
unfolding quotient product_coefficient product reduced field_product
remains a b ha hb = record {
  quotient = quotient (product a b);
  small = ltb→lt _ _ (at_two 16 (λ x y. nat_lt (quotient (product x y)) 8) tt a b ha hb);
  low = field_below a b ha hb;
  whole = eqb→eq _ _ (at_two 16 (λ x y. nat_eq (product x y) (bit_xor (product (quotient (product x y)) 19) (field_product x y))) tt a b ha hb);
}

pub sixteen : Ring 16 bit_xor (λ a. a) field_product
unfolding product_coefficient product reduced field_product
sixteen = tested 16 bit_xor (λ a. a) field_product tt (lit≤ tt) (lit≤ tt)
