use Rattle.std.proofs.Common.{◌≡◌, ◌≤◌, ℕ, drop, length, map, not, take}
use Rattle.std.specs.Prelude.{filter}
use Rattle.re_labels.specs.Configs.{image_of}
use Rattle.re_labels.specs.ListSets.{list_set}
use Rattle.re_labels.specs.Sets.{has}
use Rattle.re_changes.proofs.without.image_without.Given as goal

abbrev pub invariant-loop-config : goal.invariant-loop-config
invariant-loop-config l = (place : ℕ) × record {
  left : l.config-iterator ≡ drop place l.constraint.configs;
  degree : l.rest.degree ≡ l.constraint.degree;
  configs : l.rest.configs ≡ list_set (map (image_of l.images) (filter (λ config. not (has config l.label)) (take place l.constraint.configs)));
  few : length l.rest.configs ≤ place;
}
