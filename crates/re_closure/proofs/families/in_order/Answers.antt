use Rattle.std.proofs.lemmas.List.Sorted.{IsNonDecreasingBy-from_sort}
use Rattle.re_labels.specs.Sets.{number}
use Rattle.re_closure.proofs.families.in_order.Goals as goal

pub returns-clause-order : goal.returns-clause-order
returns-clause-order c = IsNonDecreasingBy-from_sort number c.sort_unstable.new.self.items c.sort_unstable.ensures.sorted
