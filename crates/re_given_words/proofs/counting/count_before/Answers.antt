use Rattle.std.proofs.Common.{arith}
use Rattle.re_problem.specs.NamedProblems.{unnamed}
use Rattle.re_given_words.proofs.counting.count_before.Goals as goal

pub derived_after-requires : goal.derived_after-requires
derived_after-requires c = λ j low. c.requires.counted.3 j (omega (arith, low))

pub returns-clause-told : goal.returns-clause-told
returns-clause-told c = c.count_ahead.ensures.told (unnamed c.args.problem.now) c.requires.problem c.in_ok-before.ensures c.requires.counted
