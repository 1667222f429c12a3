use Rattle.std.proofs.Common.{◌≡◌, true, take}
use Rattle.std.specs.List.{list_all}
use Rattle.re_labels.specs.Strength.{may_replace}
use Rattle.re_labels.proofs.constraint_table.Constraint.at_least.Given as goal

abbrev pub invariant-loop-place : goal.invariant-loop-place
invariant-loop-place l = list_all (may_replace l.self l.strong l.weak) (take l.place l.self.configs) ≡ true
