use Rattle.std.proofs.Common.{◌≡◌, ◌==◌, position, rules, tests}
use Rattle.std.proofs.lemmas.Iterator.{YieldsList-from_slice}
use Rattle.std.proofs.lemmas.Iterator.Search.{position_from_yields_List}
use Rattle.lines.proofs.Cutting.{till_is}
use Rattle.lines.proofs.cuts.find_byte.Goals as goal

pub returns-clause-first : goal.returns-clause-first
returns-clause-first c =
    let p : c.position.result ≡ position (λ b. b == c.args.mark) c.args.bytes.now =
    position_from_yields_List (λ b. b == c.args.mark) _ _ _ c.position.ensures.ran (YieldsList-from_slice c.args.bytes.now cc) (λ x b q k. search (rules, tests)) in
    rw (c.unwrap_or.ensures, p) (till_is c.args.mark c.args.bytes.now)
