use Rattle.std.proofs.Common.{map}
use Rattle.std.specs.List.{AllByRecursion}
use Rattle.re_labels.specs.Lists.{count_from}
use Rattle.re_labels.specs.Rows.{IsChoice}
use Rattle.re_given_words.specs.Asking.{port_spots}
use Rattle.re_given_words.proofs.meetings.+meetings_from.Given as goal

abbrev pub decreases-meetings_from : goal.decreases-meetings_from
decreases-meetings_from l = l.count

abbrev pub invariant-loop-spot : goal.invariant-loop-spot
invariant-loop-spot l = AllByRecursion (λ meeting. IsChoice meeting (map (port_spots l.ports) (count_from l.port l.count))) l.all.items
