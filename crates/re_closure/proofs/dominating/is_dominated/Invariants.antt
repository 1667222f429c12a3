use Rattle.std.proofs.Common.{ℕ, ◌<◌, get_or, []}
use Rattle.re_labels.specs.Rows.{Dominates}
use Rattle.re_closure.proofs.dominating.is_dominated.Given as goal

abbrev pub invariant-loop-top : goal.invariant-loop-top
invariant-loop-top l = (k : ℕ) → k < l.top-index → Dominates (get_or l.lines k []) l.line → ⊥
