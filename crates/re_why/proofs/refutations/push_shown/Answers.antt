use Rattle.re_why.proofs.Within.{step-high, step-low}
use Rattle.re_why.proofs.refutations.push_shown.Goals as goal

pub push_step-requires-clause-first : goal.push_step-requires-clause-first
push_step-requires-clause-first c = step-low c.args.certificate.now c.args.refutation.now.step c.args.refutation.now.clause c.args.refutation.now.witness c.in_default.not-End c.in_default.not-Back c.requires

pub push_step-requires-clause-last : goal.push_step-requires-clause-last
push_step-requires-clause-last c = step-high c.args.certificate.now c.args.refutation.now.step c.args.refutation.now.clause c.args.refutation.now.witness c.in_default.not-End c.in_default.not-Back c.requires
