use Rattle.std.proofs.Common.{◌≡◌, ℕ, ◌+◌, ◌*◌, ◌^◌, ◌≤◌, Bool, true, false, ◌&&◌, refl, ◌∙◌, arith}
use Rattle.std.proofs.lemmas.Bool.{lt-leb}
use Rattle.table.specs.Numbers.{pow_more, pow_up}
use Rattle.table.proofs.rows.message_count.Goals as goal

neither : (a b : Bool) → (a && (b && false)) ≡ false
neither true true = refl
neither true false = refl
neither false b = refl

pub returns-then-count-gt-MAX_MESSAGES : goal.returns-then-count-gt-MAX_MESSAGES
returns-then-count-gt-MAX_MESSAGES g c =
    let q : ℕ = g.S.Alphabet.Q in
    let k : ℕ = c.args.k in
    let more : c.loop.count * c.from-count.result ≡ q ^ (c.loop.counter + 1) = pow_more q c.from-count.result c.loop.counter c.loop.count c.loop.invariant.0 (c.from-count.ensures ∙ c.Q.ensures) in
    let up : q ^ (c.loop.counter + 1) ≤ q ^ k = pow_up q (c.loop.counter + 1) k (omega (arith, g.met.S.Alphabet.ring.low)) (omega (arith, c.loop-test.true)) in
    rw (lt-leb (q ^ k) 65536 (omega (arith, more, up, c.if-count-gt-MAX_MESSAGES.true))) (neither _ _)
