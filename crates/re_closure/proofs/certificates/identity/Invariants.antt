use Rattle.std.proofs.Common.{◌≡◌, map}
use Rattle.re_labels.specs.Lists.{count_from}
use Rattle.re_closure.proofs.certificates.identity.Given as goal

abbrev pub invariant-loop-label : goal.invariant-loop-label
invariant-loop-label l = l.pairs.items ≡ map (λ label. (label, label)) (count_from 0 l.label)
