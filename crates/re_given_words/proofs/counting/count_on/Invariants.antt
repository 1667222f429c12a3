use Rattle.std.proofs.Common.{◌≡◌}
use Rattle.std.specs.Prelude.{option_map}
use Rattle.re_problem.specs.Derived.{derived_by}
use Rattle.re_problem.specs.NamedProblems.{unnamed}
use Rattle.re_search.specs.Laws.{NonePassed}
use Rattle.re_given_words.specs.Counting.{AllFew}
use Rattle.re_given_words.proofs.counting.count_on.Given as goal

abbrev pub invariant-loop-rounds : goal.invariant-loop-rounds
invariant-loop-rounds l = record {
  here : unnamed l.current ≡ derived_by l.rounds (unnamed l.texts.problem);
  few : AllFew (unnamed l.texts.problem) (option_map unnamed l.texts.input) l.rounds;
  limit : NonePassed (unnamed l.texts.problem) l.rounds;
}
