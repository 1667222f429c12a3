-- The report on a finite graph on which a problem has no solution, block by block.
use Rattle.std.specs.Prelude.{◌≡◌, ℕ, ◌==◌, List, [], ◌∷◌, ◌++◌, codes, if◌then◌else◌}
use Rattle.re_cert.specs.declared.certificate.Kind.TheVariants.{Fixed}
use Rattle.re_check.specs.declared.verdict.Verdict.TheVariants.{Accepted}
use Rattle.re_cover.specs.Graphs.{PortGraph}
use Rattle.re_graph.specs.GraphTexts.{graph_text}
use Rattle.re_graph_words.specs.SolveWords.{none_line}
use Rattle.re_problem.specs.NamedProblems.{NamedProblem}
use Rattle.re_describe.specs.GivenHeads.{lines_block}
use Rattle.re_describe.specs.GraphLines.{nodes_text}
use Rattle.re_describe.specs.Heads.{claim, graph_claim, model, problem_text}
use Rattle.re_describe.specs.Reports.{SaysRows}
use Rattle.re_describe.specs.Writing.{WritesBy}
use Rattle.re_describe.specs.declared.graph_blocks.GraphBlock.{GraphBlock}
use Rattle.re_describe.specs.declared.graph_blocks.GraphBlock.TheVariants.{Active, Check, Claim, Edges, Ends, Line, Model, Nodes, Notation, Passive, Problem, Title, Why}

-- ---- the blocks
-- where the passive nodes are edges, the claim in rounds of the graph
abbrev pub edge_blocks : ℕ → List GraphBlock
edge_blocks passive = if passive == 2 then Edges ∷ [] else []

-- the problem, and the graph
abbrev pub subject_blocks : List GraphBlock
subject_blocks = Notation ∷ Problem ∷ Active ∷ Passive ∷ Nodes ∷ Ends ∷ []

-- the title, the line of `solve`, what it says, the problem and the graph
abbrev pub graph_front_blocks : ℕ → List GraphBlock
graph_front_blocks passive = Title ∷ Line ∷ Claim ∷ Model ∷ (edge_blocks passive ++ subject_blocks)

-- behind a picture: why this follows, and how to check it
abbrev pub graph_back_blocks : List GraphBlock
graph_back_blocks = Why ∷ Check ∷ []

-- ---- what they say
abbrev pub graph_notation_text : List ℕ
graph_notation_text = codes "\n## Notation\n\nA line of a constraint is a row of sets of labels, one for each edge of a node; `[AB]` is the set of `A` and `B`, and `A^2` stands for `A A`. Each choice of one label of each set is a configuration, and the lines of a constraint have all its configurations and no others.\n"

abbrev pub why_text : List ℕ
why_text = codes "\n## Why\n\nA solution on the finite graph is a label for each port of each active node: those at an active node are a configuration of the active constraint, and those at the ends of a passive node one of the passive constraint, also where some of these ends are of the same active node. Suppose that an algorithm solves problem 0 in some number of rounds. With suitable port numbers the tree unfolds each connected part of the finite graph: each node of the tree stands over a node of the graph, and nodes over the same one see the same, however far they see, so they put out the same labels. These labels are a solution on the finite graph (`re_cover::graph_law`). But it has none, as a search through all labels shows; so no number of rounds is enough (`re_cover::no_solution_law`). Where nodes have identifiers or random bits, nodes over the same one may differ, and nothing is said of that here.\n"

abbrev pub graph_check_text : List ℕ
graph_check_text = codes "\n## How to check it\n\nThat problem 0 is the problem that is meant is for the reader to see, and that each port of each active node stands once at the passive nodes. What has to be believed, or made again, is the search that found no solution on the finite graph. Any program can make it again, or `explore solve < FILE`, where FILE holds the problem, a line `== graph` and the lines of the passive nodes. This prints the line at the top of this report and ends with exit status 1. That it prints this line only where there is no solution, and no number of rounds is enough, is proved of its source by machine.\n"

-- the text is what the block of a report on the problem and the graph says
abbrev pub SaysGraph : NamedProblem → PortGraph → GraphBlock → List ℕ → Type 0
SaysGraph problem graph Title text = text ≡ codes "# Report on a finite graph without a solution\n"
SaysGraph problem graph Line text = text ≡ codes "\n    " ++ none_line
SaysGraph problem graph Claim text = text ≡ claim (Accepted Fixed 0)
SaysGraph problem graph Model text = text ≡ model problem.active.degree problem.passive.degree
SaysGraph problem graph Edges text = text ≡ graph_claim (Accepted Fixed 0)
SaysGraph problem graph Notation text = text ≡ graph_notation_text
SaysGraph problem graph Problem text = text ≡ problem_text 0 problem
SaysGraph problem graph Active text = SaysRows (codes "\nActive constraint") problem.names problem.active text
SaysGraph problem graph Passive text = SaysRows (codes "\nPassive constraint") problem.names problem.passive text
SaysGraph problem graph Nodes text = text ≡ nodes_text graph
SaysGraph problem graph Ends text = text ≡ codes "\nThe passive nodes, each with the ends at its ports, in order:\n" ++ lines_block (graph_text graph)
SaysGraph problem graph Why text = text ≡ why_text
SaysGraph problem graph Check text = text ≡ graph_check_text

-- the text is what the blocks say, one behind the other
abbrev pub WritesGraph : NamedProblem → PortGraph → List GraphBlock → List ℕ → Type 0
WritesGraph problem graph blocks text = WritesBy (SaysGraph problem graph) blocks text

-- the texts in front of the place of a picture and behind it are a report on the problem and the graph in Markdown
pub record AreParts (problem : NamedProblem) (graph : PortGraph) (front back : List ℕ) : Type 0 where
  pub begins : WritesGraph problem graph (graph_front_blocks problem.passive.degree) front
  pub ends : WritesGraph problem graph graph_back_blocks back
