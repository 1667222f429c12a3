use Rattle.std.proofs.Common.{ℕ, List}
use Rattle.std.specs.Prelude.{Contains}
use Rattle.re_given_words.specs.Asking.{AreIn, AreMore}
use Rattle.re_given_words.proofs.asking.forbid_all.Given as goal

abbrev pub invariant-loop-tuple : goal.invariant-loop-tuple
invariant-loop-tuple l = AreMore l.initial.clauses l.clauses (λ values. (tuple : List ℕ) → Contains l.tuples tuple → AreIn values l.labels l.sets tuple → ⊥)
