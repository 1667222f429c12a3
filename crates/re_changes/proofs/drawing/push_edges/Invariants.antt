use Rattle.std.proofs.Common.{◌≡◌, ◌++◌, length, map}
use Rattle.std.specs.Prelude.{filter, slice_index}
use Rattle.re_labels.specs.Lists.{count_from}
use Rattle.re_changes.specs.Classes.{is_next, strong_by}
use Rattle.re_changes.proofs.drawing.push_edges.Given as goal

abbrev pub invariant-loop-to : goal.invariant-loop-to
invariant-loop-to l =
    l.edges.items ≡ l.initial.edges.items ++ map (λ y. (l.from, y)) (filter (λ y. is_next (strong_by l.ups) (length l.ups) (slice_index l.least y) (slice_index l.least l.from)) (count_from 0 l.to))
