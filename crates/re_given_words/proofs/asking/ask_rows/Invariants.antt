use Rattle.std.proofs.Common.{ℕ, List, ◌<◌, ◌*◌}
use Rattle.std.specs.Prelude.{Contains}
use Rattle.re_labels.specs.Lists.{count_from}
use Rattle.re_given_words.specs.Asking.{AreIn, AreMore}
use Rattle.re_given_words.proofs.asking.ask_rows.Given as goal

abbrev pub invariant-loop-k : goal.invariant-loop-k
invariant-loop-k l = AreMore l.initial.clauses l.clauses
    (λ values. (k : ℕ) → k < l.meetings → (tuple : List ℕ) → Contains l.bad tuple → AreIn values l.labels (count_from (k * l.degree) l.degree) tuple → ⊥)
