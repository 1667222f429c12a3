use Rattle.std.proofs.Common.{◌≡◌, ◌<◌, ℕ, length}
use Rattle.re_search.specs.Nodes.{behind}
use Rattle.re_search.proofs.walking.may_return.Given as goal

abbrev pub invariant-loop-number : goal.invariant-loop-number
invariant-loop-number l = (k : ℕ) → k < l.number → length (behind l.first l.path k).names ≡ l.labels → 8 < l.labels
