use Rattle.std.proofs.Common.{arith}
use Rattle.re_laws.proofs.ChainRounds.{Solvable-up}
use Rattle.re_problem.specs.NamedProblems.{unnamed}
use Rattle.re_given_words.proofs.looking.look_further.Goals as goal

pub returns-in-TooFew : goal.returns-in-TooFew
returns-in-TooFew c = (omega arith, λ T low high solvable. c.in_ok-find_meetings.ensures.few c.in-TooFew.is (Solvable-up (unnamed c.args.problem.now) T 3 high solvable))
