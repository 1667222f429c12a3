use Rattle.re_problem.specs.NamedProblems.{unnamed}
use Rattle.re_given_words.proofs.RoundsLaws.{three_rounds}
use Rattle.re_given_words.proofs.three.find_meetings.Goals as goal

pub returns-in-Ok-true-clause-few : goal.returns-in-Ok-true-clause-few
returns-in-Ok-true-clause-few c = λ few solvable. c.in-Ok-true.ensures c.in-Ok-true.field-0-test (three_rounds (unnamed c.args.problem.now) c.names-names.ensures.problem.problem solvable)
