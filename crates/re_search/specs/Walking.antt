-- What a walk over some nodes of a search tree comes to, and what is found at one.
use Rattle.std.specs.Prelude.{◌≡◌, ℕ, ◌+◌, ◌-◌, true, false, List, count_by, if◌then◌else◌, length, None, is_some, Result, Ok, Err}
use Rattle.re_problem.specs.NamedProblems.{NamedProblem, unnamed}
use Rattle.re_problem.specs.ProblemTexts.{last_or}
use Rattle.re_step.specs.Derivations.{derivation, step_limit}
use Rattle.re_changes.specs.Changes.{Changed}
use Rattle.re_labels.specs.GoodRows.{max_rows, max_sets}
use Rattle.re_cert.specs.Bounds.{BoundStep, is_lower, next_problems}
use Rattle.re_cert.specs.declared.certificate.Kind.{Kind}
use Rattle.re_search.specs.Nodes.{Node, child, goes_on, is_cut, preorder, step_to, succeeds}
use Rattle.re_search.specs.Judging.{Judged, judged}
use Rattle.re_search.specs.Judging.Judged.{found, full, passed}
use Rattle.re_search.specs.declared.steps.Level.{Level}
use Rattle.re_search.specs.declared.types.FindFault.{FindFault}
use Rattle.re_search.specs.declared.types.FindFault.TheVariants.{NoMemory, TooManyNodes}
use Rattle.re_search.specs.declared.walking.Count.{Count}
use Rattle.re_search.specs.declared.walking.TheConstants.{MAX_NODES}
use Rattle.re_search.specs.declared.walking.Visited.{Visited}
use Rattle.re_search.specs.declared.walking.Visited.TheVariants.{Cut, Inner, Leaf, Success}
use Rattle.re_search.specs.declared.walking.Walked.{Walked}
use Rattle.re_search.specs.declared.walking.Walked.TheVariants.{Found, Passed}

-- the node behind these steps
abbrev pub node_at : NamedProblem → List BoundStep → ℕ → Node
node_at first steps left = record { problem = last_or first (next_problems steps); steps = steps; left = left }

-- how a search ends that has come to so many nodes before, and goes on with these
abbrev pub judged_on : Kind → NamedProblem → ℕ → List Node → Judged Node
judged_on kind first before nodes = judged (succeeds kind first) (MAX_NODES - before) nodes

-- the path leads to the first success; or there is none, the nodes are counted, and the path is what it was; or there are too many
abbrev pub Walks : Kind → NamedProblem → Count → List Node → List BoundStep → List BoundStep → Result Walked FindFault → Type 0
Walks kind first count nodes old new (Ok Found) = (node : Node) × (judged_on kind first count.nodes nodes ≡ found node) × (node.steps ≡ new)
Walks kind first count nodes old new (Ok (Passed next)) =
    (judged_on kind first count.nodes nodes ≡ passed) × (next.nodes ≡ count.nodes + length nodes) × (next.cut ≡ count.cut + count_by (is_cut kind) nodes) × (new ≡ old)
Walks kind first count nodes old new (Err TooManyNodes) = judged_on kind first count.nodes nodes ≡ full
Walks kind first count nodes old new (Err NoMemory) = Unit {0}

-- what is found at a node
abbrev pub Visits : Kind → NamedProblem → Node → Result Visited FindFault → Type 0
Visits kind first node (Ok Success) = succeeds kind first node ≡ true
Visits kind first node (Ok Leaf) = (succeeds kind first node ≡ false) × (goes_on kind node ≡ false)
Visits kind first node (Ok Cut) = (succeeds kind first node ≡ false) × (goes_on kind node ≡ true) × (is_some (step_limit (unnamed node.problem)) ≡ true)
Visits kind first node (Ok (Inner derived)) = (succeeds kind first node ≡ false) × (goes_on kind node ≡ true) × (step_limit (unnamed node.problem) ≡ None) × (derived ≡ derivation (unnamed node.problem))
Visits kind first node (Err fault) = fault ≡ NoMemory

-- the nodes from the child of a node that these changes of its derived problem make
abbrev pub below_made : Kind → ℕ → ℕ → Node → Changed → List Node
below_made kind most left node made = preorder kind most left (child node (step_to (is_lower kind) node.problem made))

-- the rows and sets of a derived problem
pub record IsLevel (problem : NamedProblem) (level : Level) : Type 0 where
  pub rows : level.rows.items ≡ max_rows problem.passive (length problem.names)
  pub sets : level.sets.items ≡ max_sets problem.passive (length problem.names)

-- the depth of the first tree of a search: at upper bounds the trees of all depths are searched in turn
abbrev pub least_depth : Kind → ℕ → ℕ
least_depth kind depth = if is_lower kind then depth else 0
