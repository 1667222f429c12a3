use Rattle.std.proofs.Common.{◌≡◌, ℕ, ◌<◌, true}
use Rattle.re_labels.specs.Sets.{IsIn}
use Rattle.re_labels.specs.Strength.{up_set}
use Rattle.re_given_words.specs.Asking.{AreMore, variable}
use Rattle.re_given_words.proofs.asking.ask_up_sets.Given as goal

abbrev pub invariant-loop-label : goal.invariant-loop-label
invariant-loop-label l = AreMore l.initial.clauses l.clauses
    (λ values. (set label other : ℕ) → set < l.sets → label < l.labels → IsIn other (up_set l.passive label l.labels) → values (variable l.labels set label) ≡ true → values (variable l.labels set other) ≡ true)
