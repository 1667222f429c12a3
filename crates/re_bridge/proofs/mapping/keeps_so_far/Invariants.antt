use Rattle.std.proofs.Common.{◌≡◌, ℕ, drop, take, true}
use Rattle.std.specs.List.{list_all}
use Rattle.re_bridge.specs.Reductions.{is_kept_so_far}
use Rattle.re_bridge.proofs.mapping.keeps_so_far.Given as goal

abbrev pub invariant-loop-config : goal.invariant-loop-config
invariant-loop-config l = (place : ℕ) × record {
  left : l.config-iterator ≡ drop place l.constraint.configs;
  kept : list_all (is_kept_so_far l.constraint l.images) (take place l.constraint.configs) ≡ true;
}
