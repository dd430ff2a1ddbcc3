use Rattle.std.proofs.Common.{◌∙◌, arith}
use Rattle.code.proofs.Rows.{is_listed}
use Rattle.product.proofs.whole.Product.pick.Goals as goal

pub returns : goal.returns
returns g c =
    is_listed _ _ c.loop-i.answer (c.loop-i.auto.answer ∙ c.requires.tray) (λ k h. c.loop-i.invariant k (omega (arith, c.requires.tray, h)))
