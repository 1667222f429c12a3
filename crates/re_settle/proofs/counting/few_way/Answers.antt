use Rattle.re_settle.proofs.Known.{count_known}
use Rattle.re_evidence.specs.declared.types.Claim.TheVariants.{MoreThan}
use Rattle.re_settle.proofs.counting.few_way.Goals as goal

pub returns : goal.returns
returns c = count_known c.args.times c.args.problem.now c.args.most c.args.counted (MoreThan c.in_ok-rounds.rounds) c.names-names.ensures.problem.problem c.requires.most c.requires.counted c.in_ok-rounds.ensures.says
