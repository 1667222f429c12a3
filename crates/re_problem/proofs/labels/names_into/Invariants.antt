use Rattle.std.proofs.Common.{length, ◌-◌, ◌≤◌, List, ℕ, drop, None}
use Rattle.re_problem.proofs.HeldLabels.{AddedNames}
use Rattle.re_problem.specs.Items.{labels_from}
use Rattle.re_problem.proofs.labels.names_into.Given as goal

-- the names in front of the place are added
abbrev pub invariant-labels : goal.invariant-labels
invariant-labels l = (l.at ≤ length l.text) × (front : List (List ℕ)) × AddedNames l.fn.names l.text front (labels_from None (drop l.at l.text)) l.names

abbrev pub decreases-labels : goal.decreases-labels
decreases-labels l = length l.text - l.at
