use Rattle.std.proofs.Common.{◌≡◌, ℕ, ◌<◌, ◌≤◌, ◌+◌, ◌*◌, length, get_or, []}
use Rattle.re_given_words.specs.declared.asking.TheConstants.{MAX_VARIABLES}
use Rattle.re_given_words.specs.Asking.{AreMore, IsTried}
use Rattle.re_given_words.proofs.asking.ask_choices.Given as goal

abbrev pub invariant-loop-choice : goal.invariant-loop-choice
invariant-loop-choice l = record {
  clauses : AreMore l.initial.clauses l.clauses (λ values. (c : ℕ) → c < length l.choices → IsTried values l.labels (l.first + c * length l.orders) (get_or l.choices c []) l.orders);
  next : l.next ≡ l.first + l.choice-index * length l.orders;
  few : l.next ≤ MAX_VARIABLES;
}
