use Rattle.std.proofs.Common.{◌≡◌, ℕ, ◌^◌, ◌≤◌, List, replicate, ap, ◌∙◌, arith}
use Rattle.table.specs.Tables.{Generator, weight}
use Rattle.table.specs.Rows.{generator_of}
use Rattle.table.specs.Numbers.{pow_some}
use Rattle.table.proofs.Surveying.{begun, nearer, kept, surveyed, count-weight}
use Rattle.table.proofs.rows.Rows.survey.Goals as goal
use Rattle.table.proofs.rows.Rows.survey.Goals.{then-cost, else-cost}

pub loop-init : goal.loop-init
loop-init g c =
    let told = c.compare-counts.ensures in
    rw c.length-distance.ensures
    (begun (generator_of c.args.self.now) g.met.S.Alphabet.ring c.args.received.now c.fill.new.self c.fill-2.new.self c.compare-counts.result
    (c.fill.ensures.after (λ y e. e) ∙ ap (λ j. replicate j 0) c.requires.word)
    (c.fill-2.ensures.after (λ y e. e) ∙ ap (λ j. replicate j 0) c.requires.nearest)
    told.wrong told.blank told.few)

pub loop-preserved : goal.loop-preserved
loop-preserved g c =
    let s : Generator = generator_of c.args.self.now in
    let ring = g.met.S.Alphabet.ring in
    let r : List ℕ = c.args.received.now in
    let next : List ℕ = c.advance.new.word in
    let inv = c.loop.invariant in
    let moved = c.advance.ensures.next (omega (arith, inv.numbered, c.loop-test.true, c.args.self.now.counted)) in
    let weighs : c.weigh.result ≡ weight next = c.weigh.ensures ∙ count-weight next in
    let told = c.compare-tried.ensures in
    elim c.if-cost.branch [
      | then-cost v ↦
          rw (v.nearest-is, v.copy_from_slice.ensures.after, c.min-distance.ensures, v.counts-is)
          (nearer s ring r c.loop.word c.loop.nearest next c.loop.counter c.loop.distance c.weigh.result c.loop.counts inv c.advance.ensures.tabled moved weighs
          c.compare-tried.result told.wrong told.blank told.few (omega (arith, v.if-cost.true, c.cost.ensures, c.cost-in-loop.ensures, told.few, inv.few, c.requires.received, c.args.self.now.few)))
      | else-cost v ↦
          rw (v.nearest-is, c.min-distance.ensures, v.counts-is)
          (kept s ring r c.loop.word c.loop.nearest next c.loop.counter c.loop.distance c.weigh.result c.loop.counts inv c.advance.ensures.tabled moved weighs
          c.compare-tried.result told.wrong told.blank (omega (arith, v.if-cost.false, c.cost.ensures, c.cost-in-loop.ensures, told.few, inv.few, c.requires.received, c.args.self.now.few)))
    ]

pub returns : goal.returns
returns g c =
    let s : Generator = generator_of c.args.self.now in
    let some : 1 ≤ s.q ^ s.k = pow_some s.q s.k (omega (arith, g.met.S.Alphabet.ring.low)) in
    surveyed s g.met.S.Alphabet.ring c.args.received.now c.loop.word c.loop.nearest c.loop.counter c.loop.distance c.loop.counts
    c.loop.invariant (omega (arith, c.args.self.now.counted, some, c.loop-test.false, c.loop.auto.counter-end))
