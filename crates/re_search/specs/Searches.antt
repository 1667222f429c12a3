-- What a search for a bound comes to.
use Rattle.std.specs.Prelude.{◌≡◌, ◌≤◌, ℕ, nat_lt, List, count_by, find, length, take, if◌then◌else◌, Option, None, Some, Result, Ok, Err}
use Rattle.re_problem.specs.NamedProblems.{NamedProblem, unnamed}
use Rattle.re_cert.specs.declared.certificate.Kind.{Kind}
use Rattle.re_cert.specs.declared.certificate.Kind.TheVariants.{Fixed, Lower, Upper}
use Rattle.re_check.specs.Verdicts.{Means, verdict_of}
use Rattle.re_check.specs.declared.verdict.Verdict.TheVariants.{Accepted}
use Rattle.re_search.specs.Nodes.{Node, all_nodes, is_cut, succeeds}
use Rattle.re_search.specs.Paths.{bound_of}
use Rattle.re_search.specs.declared.types.FindFault.{FindFault}
use Rattle.re_search.specs.declared.types.FindFault.TheVariants.{NoMemory, TooManyNodes}
use Rattle.re_search.specs.declared.types.Search.{Search}
use Rattle.re_search.specs.declared.types.Search.TheVariants.{Found, NotFound}
use Rattle.re_search.specs.declared.walking.TheConstants.{MAX_NODES}

-- the bound of the first success, where there is one among the first nodes; else that there are too many nodes, or how many there are and how
-- many of them are cut
abbrev pub concluded : Kind → NamedProblem → List Node → Option Node → Result Search FindFault
concluded kind first nodes (Some node) = Ok (Found (bound_of kind first node))
concluded kind first nodes None = if nat_lt MAX_NODES (length nodes) then Err TooManyNodes else Ok (NotFound (length nodes) (count_by (is_cut kind) nodes))

-- what a search for a bound of this kind comes to, by paths of at most so many steps and at most so many changes in each
unfoldable pub search_of : Kind → ℕ → ℕ → NamedProblem → Result Search FindFault
search_of kind depth most first =
    concluded kind first (all_nodes kind depth most first) (find (succeeds kind first) (take MAX_NODES (all_nodes kind depth most first)))

-- the program answers that, unless there was no memory
abbrev pub Answers : Kind → ℕ → ℕ → NamedProblem → Result Search FindFault → Type 0
Answers kind depth most first (Ok search) = search_of kind depth most first ≡ Ok search
Answers kind depth most first (Err TooManyNodes) = search_of kind depth most first ≡ Err TooManyNodes
Answers kind depth most first (Err NoMemory) = Unit {0}

-- the certificate that is found is accepted
abbrev pub FindsValid : Kind → Result Search FindFault → Type 0
FindsValid kind (Ok (Found bound)) = verdict_of bound ≡ Accepted kind (length bound.steps)
FindsValid kind result = Unit {0}

-- what a verdict that accepts the certificate that is found says of algorithms, holds of the given problem
abbrev pub FindsTrue : Kind → NamedProblem → Result Search FindFault → Type 0
FindsTrue kind first (Ok (Found bound)) = Means (Accepted kind (length bound.steps)) (unnamed first)
FindsTrue kind first result = Unit {0}

-- how many steps a certificate has that is found where `most` are asked for: at a lower bound exactly so many, else at most so many
abbrev pub HasSteps : Kind → ℕ → ℕ → Type 0
HasSteps Lower most steps = steps ≡ most
HasSteps Upper most steps = steps ≤ most
HasSteps Fixed most steps = steps ≤ most

-- the certificate that is found has as many steps
abbrev pub FindsSteps : Kind → ℕ → Result Search FindFault → Type 0
FindsSteps kind most (Ok (Found bound)) = HasSteps kind most (length bound.steps)
FindsSteps kind most result = Unit {0}
