-- What a report on a bound given an input problem says in words.
use Rattle.std.specs.Prelude.{ℕ, ◌==◌, ◌-◌, Bool, true, false, List, [], ◌∷◌, ◌++◌, codes, flat_map, if◌then◌else◌, length, take}
use Rattle.std.specs.Fmt.{decimal}
use Rattle.re_cert.specs.declared.certificate.Kind.{Kind}
use Rattle.re_cert.specs.declared.certificate.Kind.TheVariants.{Fixed, Lower, Upper}
use Rattle.re_laws.specs.Rounds.{rounds_above, rounds_below}
use Rattle.re_describe.specs.Heads.{at_most, in_all}

-- ---- lines that stand as they are
-- each line but the first behind four blanks
abbrev pub indented : List ℕ → List ℕ
indented text = flat_map (λ byte. if byte == 10 then codes "\n    " else byte ∷ []) text

-- lines of which the last ends with a line feed, as a block
abbrev pub lines_block : List ℕ → List ℕ
lines_block text = codes "\n    " ++ (indented (take (length text - 1) text) ++ codes "\n")

-- ---- the claim
-- what is said of the first problem where the bound holds given the input problem, and where it doesn't
abbrev pub given_claim : Bool → Kind → ℕ → List ℕ
given_claim true Lower steps = codes "\nGiven a solution of the input problem, no deterministic port-numbering algorithm solves problem 0 in " ++ (at_most steps ++ codes ".\n")
given_claim true Upper steps = codes "\nGiven a solution of the input problem, a deterministic port-numbering algorithm solves problem 0 in " ++ (in_all steps ++ codes ".\n")
given_claim true Fixed steps = codes "\nGiven a solution of the input problem, no deterministic port-numbering algorithm solves problem 0 in any number of rounds.\n"
given_claim false kind steps = codes "\nThe check fails, so of problem 0 nothing follows from this certificate but what a line `holds:` above says, where there is one. Where a line `yes` stands above, the problem with the number of that step is solvable in 0 rounds given the input labels: each edge gets a label of the set that stands behind its input label.\n"

-- where algorithms run, what a node knows, and what a round is
abbrev pub given_model : ℕ → ℕ → List ℕ
given_model active passive =
    codes "\nThe algorithms run on the infinite biregular tree with port numbers whose active nodes have degree " ++ (decimal active
    ++ (codes " and whose passive nodes have degree " ++ (decimal passive
    ++ codes ", without identifiers or random bits. Each edge has an input label. The input labels are a solution of the input problem, and an algorithm has to work with each solution. After $T$ rounds a node knows the port numbers at the nodes up to distance $T$, and the input labels of all edges of these nodes. A round is one hop of this tree.\n")))

-- the same in rounds of the graph whose edges the passive nodes are
abbrev pub given_graph_claim : Bool → Kind → ℕ → List ℕ
given_graph_claim true Lower steps =
    codes "\nThe passive nodes are the edges of a graph, and two hops are one round of the graph. Given a solution of the input problem, problem 0 isn't solvable in " ++ (at_most (rounds_below steps) ++ codes " of the graph.\n")
given_graph_claim true Upper steps =
    codes "\nThe passive nodes are the edges of a graph, and two hops are one round of the graph. Given a solution of the input problem, problem 0 is solvable in " ++ (in_all (rounds_above steps)
    ++ codes " of the graph, where each edge numbers its two ends, so that the graph comes with an orientation.\n")
given_graph_claim true Fixed steps =
    codes "\nThe passive nodes are the edges of a graph, and two hops are one round of the graph. Given a solution of the input problem, problem 0 isn't solvable in any number of rounds of the graph.\n"
given_graph_claim false kind steps = codes "\nThe passive nodes are the edges of a graph, and two hops are one round of the graph.\n"

-- ---- how to check it
abbrev pub given_exit_code : Bool → List ℕ
given_exit_code true = codes "0"
given_exit_code false = codes "1"

abbrev pub given_check_text : Bool → List ℕ
given_check_text holds =
    codes "\n## How to check it\n\nThat problem 0 and the input problem are those that are meant is for the reader to see. Each step can be checked by hand, by the clauses that docs/DEFINITIONS.md of the repository `re` states; and all of it by `explore given < FILE`, where FILE holds the certificate, or problem 0 alone for the lower bound without steps, then a line `== given` and the input problem. This prints the lines at the top of this report and ends with exit status " ++ (given_exit_code holds
    ++ codes ". That what it accepts holds given each solution of the input problem is proved of its source by machine (`re_settings::answer_law`).\n")
