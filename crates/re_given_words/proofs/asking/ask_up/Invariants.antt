use Rattle.std.proofs.Common.{◌≡◌, ℕ, ◌<◌, true}
use Rattle.re_labels.specs.Sets.{IsIn}
use Rattle.re_given_words.specs.Asking.{AreMore, variable}
use Rattle.re_given_words.proofs.asking.ask_up.Given as goal

abbrev pub invariant-loop-set : goal.invariant-loop-set
invariant-loop-set l = AreMore l.initial.clauses l.clauses
    (λ values. (set : ℕ) → set < l.sets → (other : ℕ) → IsIn other l.stronger → values (variable l.labels set l.label) ≡ true → values (variable l.labels set other) ≡ true)
