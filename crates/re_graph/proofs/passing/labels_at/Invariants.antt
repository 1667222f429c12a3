use Rattle.std.proofs.Common.{◌≡◌, ◌<◌, take}
use Rattle.std.specs.List.{AllByRecursion}
use Rattle.re_labels.specs.declared.TheConstants.{MAX_LABELS}
use Rattle.re_graph.specs.Solving.{labels_at}
use Rattle.re_graph.proofs.passing.labels_at.Given as goal

abbrev pub invariant-loop-here : goal.invariant-loop-here
invariant-loop-here l = record {
  items : l.held.items ≡ labels_at l.degree l.labels (take l.here-index l.ends);
  below : AllByRecursion (λ label. label < MAX_LABELS) l.held.items;
}
