use Rattle.std.proofs.Common.{◌≡◌, ℕ, drop, take}
use Rattle.std.specs.Prelude.{◌↔◌}
use Rattle.re_labels.specs.Sets.{IsIn}
use Rattle.re_flexible.proofs.Joining.{StandingIn}
use Rattle.re_flexible.proofs.together.standing.Given as goal

abbrev pub invariant-loop-config : goal.invariant-loop-config
invariant-loop-config l = (place : ℕ) × record {
  left : l.config-iterator ≡ drop place l.constraint.configs;
  standing : (x : ℕ) → IsIn x l.all ↔ StandingIn (take place l.constraint.configs) l.sets x;
}
