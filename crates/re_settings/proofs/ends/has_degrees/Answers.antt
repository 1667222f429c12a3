use Rattle.std.proofs.Common.{arith, rules}
use Rattle.re_problem.specs.NamedProblems.{unnamed}
use Rattle.re_settings.proofs.ends.has_degrees.Goals as goal
use Rattle.re_given.proofs.ChainGiven.{even_itself, odd_exchanged}

pub returns-then-steps-eq0 : goal.returns-then-steps-eq0
returns-then-steps-eq0 c = rw (even_itself c.args.steps (unnamed c.args.input.now) (omega (arith, c.if-steps-eq0.true))) (search rules)

pub returns-else-steps-eq0 : goal.returns-else-steps-eq0
returns-else-steps-eq0 c = rw (odd_exchanged c.args.steps (unnamed c.args.input.now) (λ e. omega (arith, e, c.if-steps-eq0.false))) (search rules)
