use Rattle.std.proofs.Common.{◌<◌, ◌∙◌, sym, subst, length}
use Rattle.std.specs.List.{AllByRecursion}
use Rattle.re_walks.proofs.FirstEntries.{entries-low, entries-rise}
use Rattle.re_labels.specs.Lists.{IsRising}
use Rattle.re_labels.specs.Sets.{number}
use Rattle.re_problem.specs.Steps.{SetEntry, entry_sets}
use Rattle.re_labels.proofs.MaxSets.{max_sets_law}
use Rattle.re_labels.specs.declared.TheConstants.{MAX_LABELS}
use Rattle.re_bridge.proofs.by_set.passes_by_set.Goals as goal

pub keeps_entries-requires-clause-ascends : goal.keeps_entries-requires-clause-ascends
keeps_entries-requires-clause-ascends c =
    subst (λ es. IsRising (λ s t. number s < number t) (entry_sets es)) (sym (c.as_slice.ensures.value ∙ c.in_ok-entries.ensures))
    (entries-rise c.args.sets.now c.args.labels.now (subst (IsRising (λ s t. number s < number t)) (sym c.requires.sets) (max_sets_law c.args.before.now.passive (length c.args.before.now.names)).0))

pub keeps_entries-requires-clause-labels : goal.keeps_entries-requires-clause-labels
keeps_entries-requires-clause-labels c =
    subst (AllByRecursion (λ (e : SetEntry). e.label < MAX_LABELS)) (sym (c.as_slice.ensures.value ∙ c.in_ok-entries.ensures))
    (entries-low c.args.sets.now c.args.labels.now c.requires.labels)
