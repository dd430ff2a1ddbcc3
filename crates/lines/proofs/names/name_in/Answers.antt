use Rattle.std.proofs.Common.{◌≡◌, codes, refl, rules}
use Rattle.std.proofs.lemmas.Slice.Eq.{text_from_reads}
use Rattle.lines.proofs.names.name_in.Goals as goal

pub returns-in-SHIFT : goal.returns-in-SHIFT
returns-in-SHIFT c = let e : c.args.field.now ≡ codes "SHIFT" = search (rules, text_from_reads) in rw e refl
