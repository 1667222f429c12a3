use Rattle.std.proofs.Common.{◌≡◌, ◌≤◌, flat_map, take}
use Rattle.std.specs.List.{AllByRecursion}
use Rattle.re_labels.specs.Lists.{IsRising}
use Rattle.re_step.specs.Rests.{rests_of}
use Rattle.re_step.proofs.rests.all_rests.Given as goal

abbrev pub invariant-loop-config : goal.invariant-loop-config
invariant-loop-config l = record {
  rests : l.rests.items ≡ flat_map (rests_of l.set) (take l.config-index l.configs);
  rise : AllByRecursion (IsRising (λ x y. x ≤ y)) (take l.config-index l.configs);
}
