use Rattle.std.proofs.lemmas.Result.{IfOk-weaker}
use Rattle.re_given.specs.Inputs.{exchanged}
use Rattle.re_problem.specs.NamedProblems.{unnamed}
use Rattle.re_settings.proofs.Answering.{answered}
use Rattle.re_settings.proofs.finding.find_fit_exchanged.Goals as goal

pub returns-clause-answer : goal.returns-clause-answer
returns-clause-answer c =
    IfOk-weaker c.find_upper.result _ _ (λ o f. answered (unnamed c.args.problem.now) (exchanged (unnamed c.args.input.now)) c.args.tries _ c.names-problem.ensures.problem.problem c.requires.input f) c.find_upper.ensures.found
