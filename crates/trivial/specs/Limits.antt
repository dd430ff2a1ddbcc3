-- The trivial code, whose only word is a single zero: what a code means whose numbers break its limits. Assumes nothing.
use Rattle.std.specs.Prelude.{◌≡◌, ℕ, Bool, true, false, [], ◌∷◌}
use Rattle.code.specs.Codes.{Codebook, Layout}

abbrev pub trivial : ℕ → Codebook
trivial q = record { q = q; n = 1; d = 1; working = 0; Word = λ w. w ≡ 0 ∷ [] }

-- it carries no message
abbrev pub no_message : Layout
no_message = record { k = 0; place = λ i. i }

-- a code whose numbers are inside their limits, or the trivial code in its place
abbrev pub limited : Bool → ℕ → Codebook → Codebook
limited true q b = b
limited false q b = trivial q

abbrev pub limited_layout : Bool → Layout → Layout
limited_layout true l = l
limited_layout false l = no_message
