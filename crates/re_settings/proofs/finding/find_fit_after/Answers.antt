use Rattle.std.proofs.Common.{arith, subst}
use Rattle.re_given.specs.Inputs.{IsInput}
use Rattle.re_problem.specs.NamedProblems.{unnamed}
use Rattle.re_given.proofs.ChainGiven.{even_itself, odd_exchanged}
use Rattle.re_settings.proofs.finding.find_fit_after.Goals as goal

pub find_fit-requires : goal.find_fit-requires
find_fit-requires c = record { input = subst (IsInput (unnamed c.args.problem.now)) (even_itself c.args.steps (unnamed c.args.input.now) (omega (arith, c.if-steps-eq0.true))) c.requires.input }

pub find_fit_exchanged-requires : goal.find_fit_exchanged-requires
find_fit_exchanged-requires c =
    record { input = subst (IsInput (unnamed c.args.problem.now)) (odd_exchanged c.args.steps (unnamed c.args.input.now) (λ e. omega (arith, e, c.if-steps-eq0.false))) c.requires.input }

pub returns-then-steps-eq0-clause-found : goal.returns-then-steps-eq0-clause-found
returns-then-steps-eq0-clause-found c = rw (even_itself c.args.steps (unnamed c.args.input.now) (omega (arith, c.if-steps-eq0.true))) c.find_fit.ensures.found

pub returns-then-steps-eq0-clause-answer : goal.returns-then-steps-eq0-clause-answer
returns-then-steps-eq0-clause-answer c = rw (even_itself c.args.steps (unnamed c.args.input.now) (omega (arith, c.if-steps-eq0.true))) c.find_fit.ensures.answer

pub returns-then-steps-eq0-clause-tries : goal.returns-then-steps-eq0-clause-tries
returns-then-steps-eq0-clause-tries c = rw (even_itself c.args.steps (unnamed c.args.input.now) (omega (arith, c.if-steps-eq0.true))) c.find_fit.ensures.tries

pub returns-else-steps-eq0-clause-found : goal.returns-else-steps-eq0-clause-found
returns-else-steps-eq0-clause-found c = rw (odd_exchanged c.args.steps (unnamed c.args.input.now) (λ e. omega (arith, e, c.if-steps-eq0.false))) c.find_fit_exchanged.ensures.found

pub returns-else-steps-eq0-clause-answer : goal.returns-else-steps-eq0-clause-answer
returns-else-steps-eq0-clause-answer c = rw (odd_exchanged c.args.steps (unnamed c.args.input.now) (λ e. omega (arith, e, c.if-steps-eq0.false))) c.find_fit_exchanged.ensures.answer

pub returns-else-steps-eq0-clause-tries : goal.returns-else-steps-eq0-clause-tries
returns-else-steps-eq0-clause-tries c = rw (odd_exchanged c.args.steps (unnamed c.args.input.now) (λ e. omega (arith, e, c.if-steps-eq0.false))) c.find_fit_exchanged.ensures.tries
