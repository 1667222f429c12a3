use Rattle.std.proofs.Common.{◌≡◌, ℕ, ◌<◌, [], false, get_or, map, not}
use Rattle.re_labels.specs.Rows.{set_at}
use Rattle.re_labels.specs.GoodRows.{is_allowed}
use Rattle.re_problem.proofs.images.first_not_allowed.Given as goal

abbrev pub invariant-loop-place : goal.invariant-loop-place
invariant-loop-place l = (k : ℕ) → k < l.place → not (is_allowed l.from (map (set_at l.sets) (get_or l.to.configs k []))) ≡ false
