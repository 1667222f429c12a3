use Rattle.re_problem.specs.NamedProblems.{unnamed}
use Rattle.re_given_words.proofs.counting.count_alone.Goals as goal

pub returns-in-Labels-clause-told : goal.returns-in-Labels-clause-told
returns-in-Labels-clause-told c = c.count_ahead.ensures.told (unnamed c.args.problem.now) c.requires.problem c.requires.here c.requires.counted
