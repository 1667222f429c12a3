use Rattle.std.proofs.Common.{◌≡◌, ◌++◌, map}
use Rattle.re_labels.specs.Rows.{placed}
use Rattle.re_closure.proofs.families.lines_at.Given as goal

abbrev pub invariant-loop-config : goal.invariant-loop-config
invariant-loop-config l = l.lines.items ++ map (placed l.sets) l.config-iterator ≡ map (placed l.sets) l.constraint.configs
