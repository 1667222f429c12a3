use Rattle.std.proofs.Common.{◌≡◌, ◌++◌, ◌+◌, ℕ, List, true, length}
use Rattle.std.specs.Prelude.{Contains}
use Rattle.re_greedy.proofs.answering.first_stuck.Given as goal
use Rattle.re_labels.specs.Orders.{multisets}
use Rattle.re_labels.specs.Rows.{placed}
use Rattle.re_labels.specs.GoodRows.{is_allowed}

abbrev pub invariant-loop-picks : goal.invariant-loop-picks
invariant-loop-picks l = record {
  all : l.yielded ++ l.picks-iterator ≡ multisets l.constraint.degree 0 (length l.joining);
  spent : length l.yielded + l.tries ≡ l.fn.tries;
  allowed : (places : List ℕ) → Contains l.yielded places → is_allowed l.constraint (placed l.joining places) ≡ true;
}
