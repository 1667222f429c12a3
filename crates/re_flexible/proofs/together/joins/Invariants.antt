use Rattle.std.proofs.Common.{◌≡◌, ℕ, drop, length, take}
use Rattle.std.specs.Prelude.{◌↔◌}
use Rattle.re_labels.specs.declared.TheConstants.{MAX_LABELS}
use Rattle.re_flexible.proofs.Joining.{JoinedIn}
use Rattle.re_flexible.proofs.together.joins.Given as goal
use Rattle.re_flexible.specs.Relations.{Relates}

abbrev pub invariant-loop-config : goal.invariant-loop-config
invariant-loop-config l = (place : ℕ) × record {
  left : l.config-iterator ≡ drop place l.constraint.configs;
  count : length l.table.items ≡ MAX_LABELS;
  joined : (x y : ℕ) → Relates l.table.items x y ↔ JoinedIn (take place l.constraint.configs) l.sets x y;
}
