use Rattle.std.proofs.Common.{length, take}
use Rattle.re_problem.specs.NamedProblems.{unnamed}
use Rattle.re_given_words.proofs.Serving.{AreTried}
use Rattle.re_given_words.proofs.searching.+serve.Given as goal

abbrev pub decreases-serve : goal.decreases-serve
decreases-serve l = length l.opens.now

abbrev pub invariant-loop-row : goal.invariant-loop-row
invariant-loop-row l = AreTried (unnamed l.problem) l.rows l.standing l.first.ports (take l.row-index l.row-items)
