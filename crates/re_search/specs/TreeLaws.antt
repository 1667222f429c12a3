-- What is known of the paths of the search tree.
use Rattle.std.specs.Prelude.{◌≡◌, ℕ, ◌≤◌, true, length, Contains, None}
use Rattle.re_problem.specs.NamedProblems.{IsNamedProblem, NamedProblem}
use Rattle.re_cert.specs.Bounds.{is_bound}
use Rattle.re_cert.specs.declared.certificate.Kind.{Kind}
use Rattle.re_cert.specs.declared.certificate.TheConstants.{MAX_STEPS}
use Rattle.re_check.specs.Verdicts.{bound_fault}
use Rattle.re_search.specs.Nodes.{Node, all_nodes, succeeds}
use Rattle.re_search.specs.Paths.{bound_of}

-- the bound of the path to a success is a bound without a fault
abbrev pub SuccessLaw : Type 0
SuccessLaw = (kind : Kind) (depth most : ℕ) (first : NamedProblem) (node : Node) → IsNamedProblem first → depth ≤ MAX_STEPS →
    Contains (all_nodes kind depth most first) node → succeeds kind first node ≡ true →
    (is_bound (bound_of kind first node) ≡ true) × (bound_fault (bound_of kind first node) ≡ None)
