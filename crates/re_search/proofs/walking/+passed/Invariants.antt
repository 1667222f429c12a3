use Rattle.std.proofs.Common.{◌≡◌, ◌+◌, ◌-◌, ◌<◌, ◌≤◌, ℕ, List, Ok, flat_map, length, take, true}
use Rattle.re_cert.specs.Bounds.{BoundStep}
use Rattle.re_cert.specs.declared.certificate.Kind.TheVariants.{Fixed}
use Rattle.re_changes.specs.Changes.{Changed, changed_by, changed_times}
use Rattle.re_problem.specs.NamedProblems.{NamedProblem}
use Rattle.re_search.specs.Nodes.{behind}
use Rattle.re_search.specs.Walking.{Walks, below_made, node_at}
use Rattle.re_search.specs.declared.walking.Walked.TheVariants.{Passed}
use Rattle.re_search.proofs.walking.+passed.Given as goal

abbrev pub decreases-passed : goal.decreases-passed
decreases-passed l = l.changes

abbrev pub invariant-loop-change : goal.invariant-loop-change
invariant-loop-change l = (first : NamedProblem) (most : ℕ) (steps : List BoundStep) (made : Changed) → length made.problem.names ≡ l.labels
    → ((number : ℕ) → number ≤ length steps → length (behind first steps number).names + l.changes ≡ l.labels → 8 + l.changes < l.labels) →
    Walks Fixed first l.fn.count
    (flat_map (λ change. flat_map (below_made Fixed most 0 (node_at first steps 1)) (changed_times true (l.changes - 1) (changed_by change made)))
    (take l.change-index l.change-items))
    steps steps (Ok (Passed l.count))
