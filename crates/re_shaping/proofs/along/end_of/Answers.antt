use Rattle.std.proofs.Common.{◌∙◌, refl, sym}
use Rattle.re_cert.proofs.Building.{last_of}
use Rattle.re_shaping.proofs.along.end_of.Goals as goal

pub returns-else-is_empty : goal.returns-else-is_empty
returns-else-is_empty c = c.next.ensures ∙ sym (last_of c.args.first.now c.args.steps.now c.args.steps.now c.index-steps-steps.result refl c.if-is_empty.ensures c.index-steps-steps.is)
