use Rattle.std.proofs.Common.{◌≡◌, map}
use Rattle.re_labels.specs.Rows.{set_at}
use Rattle.re_labels.specs.Lists.{count_from}
use Rattle.re_bridge_words.proofs.upper.entries_of.Given as goal

abbrev pub invariant-loop-label : goal.invariant-loop-label
invariant-loop-label l = l.entries.items ≡ map (λ label. record { set = set_at l.sets label; label = label }) (count_from 0 l.label)
