use Rattle.std.proofs.Common.{◌≡◌, ◌++◌, eqb, take}
use Rattle.std.specs.Prelude.{filter}
use Rattle.re_problem.specs.Steps.{SetEntry}
use Rattle.re_shaping.specs.Naming.{by_label}
use Rattle.re_shaping.proofs.naming.by_label.Given as goal

abbrev pub invariant-loop-label : goal.invariant-loop-label
invariant-loop-label l = l.ordered.items ≡ by_label l.label l.entries

abbrev pub invariant-loop-entry : goal.invariant-loop-entry
invariant-loop-entry l = l.ordered.items ≡ l.initial.ordered.items ++ filter (λ (entry : SetEntry). eqb entry.label l.label) (take l.entry-index l.entries)
