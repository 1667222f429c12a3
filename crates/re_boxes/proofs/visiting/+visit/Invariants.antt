use Rattle.std.proofs.Common.{◌≡◌, ◌≤◌, ◌-◌, ℕ, [], get_or, length}
use Rattle.re_labels.specs.Sets.{IsLabelSet}
use Rattle.re_boxes.proofs.Visits.{IsNarrowedBelow}
use Rattle.re_boxes.specs.Spans.{tree_of, IsWaiting}
use Rattle.re_boxes.proofs.visiting.+visit.Given as goal
use Rattle.re_labels.specs.declared.TheConstants.{MAX_LABELS}

abbrev pub decreases-visit : goal.decreases-visit
decreases-visit l = l.constraint.now.degree - length l.beginning.now.items

abbrev pub invariant-loop-least : goal.invariant-loop-least
invariant-loop-least l = record {
  same : l.beginning.items ≡ l.fn.beginning.items;
  low : l.least ≤ MAX_LABELS;
  waiting : IsWaiting (tree_of l.constraint l.nodes) l.fn.beginning.items l.bound l.least l.rest l.waiting.items;
  sets : (n : ℕ) → ((a : ℕ) → IsLabelSet n (get_or l.fn.ups a [])) → (a : ℕ) → IsLabelSet n (get_or l.ups a []);
  narrowed : IsNarrowedBelow (tree_of l.constraint l.nodes) l.fn.beginning.items l.least l.fn.ups l.ups;
}

abbrev pub decreases-loop-least : goal.decreases-loop-least
decreases-loop-least l = MAX_LABELS - l.least
