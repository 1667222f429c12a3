use Rattle.std.proofs.Common.{◌≡◌}
use Rattle.re_problem.specs.Derived.{derived_by}
use Rattle.re_problem.specs.NamedProblems.{unnamed}
use Rattle.re_given_words.proofs.counting.derived_after.Given as goal

abbrev pub invariant-loop-done : goal.invariant-loop-done
invariant-loop-done l = unnamed l.current ≡ derived_by l._done (unnamed l.problem)
