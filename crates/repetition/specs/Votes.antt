-- Majority voting by Boyer and Moore: one candidate and its lead over all others. Assumes nothing.
use Rattle.std.specs.Prelude.{ℕ, ◌+◌, ◌≤◌, cond, ◌==◌}
use Rattle.repetition.specs.declared.votes.Vote.{Vote}

-- after i cells that cost p against v: another than the candidate costs i and the lead at least, and the candidate i less the lead at least
abbrev pub Led : Vote → (v i p : ℕ) → Type 0
Led t v i p = i + cond (v == t.candidate) 0 t.lead ≤ p + cond (v == t.candidate) t.lead 0
