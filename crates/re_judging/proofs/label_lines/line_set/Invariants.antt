use Rattle.std.proofs.Common.{◌≡◌, length, List, ℕ, ◌-◌, ◌≤◌}
use Rattle.re_cert.proofs.ReadLabels.{ImageItems}
use Rattle.re_labels.specs.Configs.{support_of}
use Rattle.re_problem.specs.Items.{ItemText}
use Rattle.re_judging.proofs.label_lines.line_set.Given as goal

-- the labels of the items in front of the place are known, and this is their set
abbrev pub invariant-items : goal.invariant-items
invariant-items l = (l.at ≤ length l.line) × (front : List ItemText) × (labels : List ℕ) × ImageItems l.names l.line l.at front labels × (l.set ≡ support_of labels)

abbrev pub decreases-items : goal.decreases-items
decreases-items l = length l.line - l.at
