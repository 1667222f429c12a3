use Rattle.std.proofs.Common.{ℕ, ◌<◌}
use Rattle.std.specs.List.{AllByRecursion}
use Rattle.re_given_words.specs.Asking.{IsChoiceOf}
use Rattle.re_given_words.proofs.meetings.choices_of.Given as goal

abbrev pub invariant-loop-at : goal.invariant-loop-at
invariant-loop-at l = AllByRecursion (λ choice. (t : ℕ) × (t < l.types) × IsChoiceOf l.ports l.meetings l.degree l.size t choice) l.all.items
