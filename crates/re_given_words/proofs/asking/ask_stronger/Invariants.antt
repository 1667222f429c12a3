use Rattle.std.proofs.Common.{◌≡◌, ℕ, true}
use Rattle.re_labels.specs.Sets.{IsIn}
use Rattle.re_given_words.specs.Asking.{AreMore, variable}
use Rattle.re_given_words.proofs.asking.ask_stronger.Given as goal

abbrev pub invariant-loop-other : goal.invariant-loop-other
invariant-loop-other l = AreMore l.initial.clauses l.clauses
    (λ values. (other : ℕ) → IsIn other l.stronger → values (variable l.labels l.set l.label) ≡ true → values (variable l.labels l.set other) ≡ true)
