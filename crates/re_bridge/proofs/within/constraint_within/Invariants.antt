use Rattle.std.proofs.Common.{◌≡◌, ◌≤◌, ℕ, drop, length, take}
use Rattle.std.specs.Prelude.{filter}
use Rattle.re_labels.specs.ListSets.{list_set}
use Rattle.re_labels.specs.Sets.{within}
use Rattle.re_bridge.proofs.within.constraint_within.Given as goal

abbrev pub invariant-loop-config : goal.invariant-loop-config
invariant-loop-config l = (place : ℕ) × record {
  left : l.config-iterator ≡ drop place l.constraint.configs;
  degree : l.rest.degree ≡ l.constraint.degree;
  configs : l.rest.configs ≡ list_set (filter (λ config. within config l.labels) (take place l.constraint.configs));
  few : length l.rest.configs ≤ place;
}
