use Rattle.re_step.proofs.RestLemmas.{partner_more, partner_none}
use Rattle.std.proofs.Common.{rules}
use Rattle.re_step.proofs.rests.with_partner.Goals as goal

pub returns-then-has : goal.returns-then-has
returns-then-has c = partner_more c.args.partners c.args.set c.args.label c.args.other (search (c.if-has.ensures, rules)) c.insert.result c.insert.ensures

pub returns-else-has : goal.returns-else-has
returns-else-has c = partner_none c.args.partners c.args.set c.args.label c.args.other (search (c.if-has.ensures, rules))
