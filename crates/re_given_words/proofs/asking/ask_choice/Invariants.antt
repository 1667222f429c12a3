use Rattle.std.proofs.Common.{◌≡◌, ℕ, ◌<◌, ◌+◌, Bool, true}
use Rattle.re_clauses.specs.Clauses.{satisfies}
use Rattle.re_given_words.specs.Asking.{AreMore, IsTried}
use Rattle.re_given_words.proofs.asking.ask_choice.Given as goal

abbrev pub invariant-loop-at : goal.invariant-loop-at
invariant-loop-at l = record {
  clauses : AreMore l.initial.clauses l.clauses (λ values. IsTried values l.labels l.first l.sets l.orders);
  some : (values : ℕ → Bool) (k : ℕ) → k < l.at → values (l.first + k) ≡ true → satisfies values l.some.items ≡ true;
}
