use Rattle.std.proofs.Common.{length, ◌-◌, ◌≤◌, List, ℕ, drop, None}
use Rattle.re_problem.proofs.HeldLabels.{ReadLabels}
use Rattle.re_problem.specs.Items.{labels_from}
use Rattle.re_problem.proofs.labels.labels_in.Given as goal

-- the labels in front of the place are held, and these are their set
abbrev pub invariant-labels : goal.invariant-labels
invariant-labels l = (l.at ≤ length l.text) × (front : List (List ℕ)) × ReadLabels l.names l.text front (labels_from None (drop l.at l.text)) l.labels

abbrev pub decreases-labels : goal.decreases-labels
decreases-labels l = length l.text - l.at
