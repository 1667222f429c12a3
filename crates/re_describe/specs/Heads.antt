-- What a report says of the first problem, and of the model.
use Rattle.std.specs.Prelude.{ℕ, ◌==◌, ◌+◌, ◌-◌, List, [], ◌++◌, codes, if◌then◌else◌, length}
use Rattle.std.specs.Fmt.{decimal}
use Rattle.re_cert.specs.declared.certificate.Kind.TheVariants.{Fixed, Lower, Upper}
use Rattle.re_check.specs.declared.verdict.Verdict.{Verdict}
use Rattle.re_check.specs.declared.verdict.Verdict.TheVariants.{Accepted, Refused}
use Rattle.re_laws.specs.Rounds.{rounds_above, rounds_below}
use Rattle.re_problem.specs.NamedProblems.{NamedProblem}
use Rattle.re_labels.specs.Constraints.{Constraint}

-- ---- numbers of rounds
-- so many or fewer of them
abbrev pub at_most : ℕ → List ℕ
at_most rounds = if rounds == 0 then codes "0 rounds" else decimal rounds ++ codes " or fewer rounds"

-- so many of them
abbrev pub in_all : ℕ → List ℕ
in_all rounds = decimal rounds ++ (if rounds == 1 then codes " round" else codes " rounds")

-- ---- the claim
-- what a verdict says of the first problem
abbrev pub claim : Verdict → List ℕ
claim (Accepted Lower steps) = codes "\nNo deterministic port-numbering algorithm solves problem 0 in " ++ (at_most steps ++ codes ".\n")
claim (Accepted Upper steps) = codes "\nA deterministic port-numbering algorithm solves problem 0 in " ++ (in_all steps ++ codes ".\n")
claim (Accepted Fixed steps) = codes "\nNo deterministic port-numbering algorithm solves problem 0 in any number of rounds.\n"
claim (Refused step clause) = codes "\nThe check fails, so nothing follows from this certificate.\n"

-- where algorithms run, and what a round is
abbrev pub model : ℕ → ℕ → List ℕ
model active passive =
    codes "\nThe algorithms run on the infinite biregular tree with port numbers whose active nodes have degree " ++ (decimal active
    ++ (codes " and whose passive nodes have degree " ++ (decimal passive
    ++ codes ", without identifiers, random bits or inputs. A round is one hop of this tree.\n")))

-- what a verdict says of rounds of the graph whose edges the passive nodes are: two hops are one round
abbrev pub graph_claim : Verdict → List ℕ
graph_claim (Accepted Lower steps) =
    codes "\nThe passive nodes are the edges of a graph, and two hops are one round of the graph. Problem 0 isn't solvable in " ++ (at_most (rounds_below steps) ++ codes " of the graph.\n")
graph_claim (Accepted Upper steps) =
    codes "\nThe passive nodes are the edges of a graph, and two hops are one round of the graph. Problem 0 is solvable in " ++ (in_all (rounds_above steps)
    ++ codes " of the graph, where each edge numbers its two ends, so that the graph comes with an orientation.\n")
graph_claim (Accepted Fixed steps) = codes "\nThe passive nodes are the edges of a graph, and two hops are one round of the graph. Problem 0 isn't solvable in any number of rounds of the graph.\n"
graph_claim (Refused step clause) = codes "\nThe passive nodes are the edges of a graph, and two hops are one round of the graph.\n"

-- ---- identifiers and random strings, with the names of the statements that say it exactly
-- the numbers of rounds up to this one
abbrev pub up_to : ℕ → List ℕ
up_to rounds = if rounds == 0 then codes "for $T = 0$" else codes "for each $T$ from 0 to " ++ decimal rounds

-- of forests and of random strings, after a lower bound of so many steps, where active nodes have this degree
abbrev pub fewer_claim : ℕ → ℕ → List ℕ
fewer_claim active steps =
    codes "\nOn finite forests of $N$ nodes, whose identifiers are the numbers below $N$, no deterministic algorithm of $T$ rounds solves it, " ++ (up_to (steps - 1)
    ++ ((codes " and each $N$ from $" ++ (decimal (active + 1)
    ++ codes " C^{T + 2}$ on (`re_forests::link_law`, `re_forests::fewer_on_forests_law`).\n\nRandomised algorithms, in which each active node of these trees also draws a private random string: "))
    ++ (up_to steps
    ++ codes ", each $N$ from $B^{T + 1}$ on and each $q$ from $2^{D^{T + 1}}$ on, each such algorithm of $T$ rounds has port numbers and different identifiers with which it fails at some node with a probability of at least $1/q$. The numbers $B$ and $D$ depend on the degrees and the number of labels of the last problem alone (`re_given_bounds::whole_randomised_law`).\n")))

-- what a verdict says of algorithms whose nodes have unique identifiers, and of such that are randomised, where active nodes have this degree
abbrev pub identifiers_claim : ℕ → Verdict → List ℕ
identifiers_claim active (Accepted Lower steps) =
    codes "\nWith unique identifiers at the active nodes of these trees, one of $N$ at each and different ones wherever a node sees two, no deterministic algorithm of $T$ rounds solves problem 0, " ++ (up_to steps
    ++ (codes " and each $N$ from $C^{T + 1}$ on, where $C$ depends on the degrees and the number of labels of the last problem alone (`re_given_bounds::whole_lower_bound_law`).\n"
    ++ (if steps == 0 then [] else fewer_claim active steps)))
identifiers_claim active (Accepted Upper steps) =
    codes "\nWith unique identifiers a deterministic algorithm solves problem 0 on these trees in " ++ ((in_all steps
    ++ codes " too, however many there are (`re_classes::any_identifiers_law`), and on finite forests in ") ++ (in_all (steps + 1)
    ++ codes " (`re_forests::ports_on_forests_law`).\n"))
identifiers_claim active (Accepted Fixed steps) =
    codes "\nWith unique identifiers at the active nodes of these trees, one of $N$ at each and different ones wherever a node sees two, no deterministic algorithm of $T$ rounds solves problem 0, for each $T$ and each $N$ from $C^{T + 1}$ on, where $C$ depends on the degrees and the greatest number of labels of a problem alone (`re_given_bounds::logarithmic_bound_law`): it takes more than $\\log_C N - 1$ rounds. So on finite forests of $N$ nodes, whose identifiers are the numbers below $N$, it takes at least the order of $\\log N$ rounds (`re_given_bounds::above_log_law`, `re_forests::above_law`).\n\nRandomised algorithms, in which each active node of these trees also draws a private random string: for each $T$, each $N$ from $C^{T + 1}$ on and each $q$ from $2^{D^{T + 1}}$ on, each such algorithm of $T$ rounds has port numbers and different identifiers with which it fails at some node with a probability of at least $1/q$. The number $D$ depends on the degrees and the greatest number of labels of a problem alone (`re_given_bounds::identified_bound_law`). So with $n$ identifiers and a probability of failure below $1/n$ at each node, problem 0 takes at least the order of $\\log \\log n$ rounds.\n"
identifiers_claim active (Refused step clause) = []

-- ---- problems
-- the degree of a side and how many configurations it has, behind some words
abbrev pub side_counts : List ℕ → Constraint → List ℕ
side_counts words constraint = words ++ (decimal constraint.degree ++ (codes ", configurations: " ++ decimal (length constraint.configs)))

-- the numbers of a problem: of its labels, and of each side its degree and its configurations
abbrev pub counts : NamedProblem → List ℕ
counts problem =
    (codes "\n- labels: " ++ decimal (length problem.names)) ++ (side_counts (codes "\n- active nodes: degree ") problem.active
    ++ (side_counts (codes "\n- passive nodes: degree ") problem.passive ++ codes "\n"))

-- the title of a problem, and its numbers
abbrev pub problem_text : ℕ → NamedProblem → List ℕ
problem_text number problem = (codes "\n## Problem " ++ (decimal number ++ codes "\n")) ++ counts problem
