use Rattle.std.proofs.Common.{◌≡◌, ◌<◌, ◌≤◌, ℕ, List, [], Contains, get_or, length}
use Rattle.std.specs.List.{AllByRecursion}
use Rattle.re_labels.specs.Lists.{IsRising}
use Rattle.re_labels.specs.Sets.{number}
use Rattle.re_step.proofs.SetLemmas.{IsOnce}
use Rattle.re_step.proofs.sets.without_repeats.Given as goal

abbrev pub invariant-loop-set : goal.invariant-loop-set
invariant-loop-set l = IsOnce l.sets l.set-index l.once.items l.bound
