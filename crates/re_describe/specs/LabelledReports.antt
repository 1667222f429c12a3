-- The report on a finite graph with a solution of an input problem on which a problem has none, block by block.
use Rattle.std.specs.Prelude.{◌≡◌, ℕ, ◌==◌, true, List, [], ◌∷◌, ◌++◌, codes, flat_map, if◌then◌else◌, map}
use Rattle.re_cert.specs.declared.certificate.Kind.TheVariants.{Fixed}
use Rattle.re_graph_words.specs.GivenInputs.{Labelled}
use Rattle.re_graph_words.specs.GivenSolutions.{given_none_line}
use Rattle.re_describe.specs.GivenHeads.{given_claim, given_graph_claim, given_model}
use Rattle.re_describe.specs.GraphReports.{SaysGraph, subject_blocks}
use Rattle.re_describe.specs.InputNames.{input_text}
use Rattle.re_describe.specs.Pieces.{image_text}
use Rattle.re_describe.specs.Reports.{SaysRows}
use Rattle.re_describe.specs.Writing.{WritesBy}
use Rattle.re_describe.specs.declared.labelled_blocks.LabelledBlock.{LabelledBlock}
use Rattle.re_describe.specs.declared.labelled_blocks.LabelledBlock.TheVariants.{Check, Claim, Edges, Input, InputActive, InputPassive, Labels, Line, Model, Of, Title, Why}

-- ---- the blocks
-- where the passive nodes are edges, the claim in rounds of the graph
abbrev pub labelled_edge_blocks : ℕ → List LabelledBlock
labelled_edge_blocks passive = if passive == 2 then Edges ∷ [] else []

-- the title, the line of `solve`, what it says, the input problem, and the problem and the graph as in a report without one, with the labels
abbrev pub labelled_front_blocks : ℕ → List LabelledBlock
labelled_front_blocks passive =
    Title ∷ Line ∷ Claim ∷ Model ∷ (labelled_edge_blocks passive ++ (Input ∷ InputActive ∷ InputPassive ∷ (map Of subject_blocks ++ Labels ∷ [])))

-- behind a picture: why this follows, and how to check it
abbrev pub labelled_back_blocks : List LabelledBlock
labelled_back_blocks = Why ∷ Check ∷ []

-- ---- what they say
abbrev pub labelled_why_text : List ℕ
labelled_why_text = codes "\n## Why\n\nA solution on the finite graph is a label for each port of each active node: those at an active node are a configuration of the active constraint, and those at the ends of a passive node one of the passive constraint, also where some of these ends are of the same active node. The input labels are such a solution of the input problem. Suppose that an algorithm solves problem 0 in some number of rounds given a solution of the input problem. With suitable port numbers the tree unfolds each connected part of the finite graph: each node of the tree stands over a node of the graph, and its edges have the input labels of that node's, which are a solution of the input problem on the tree, too. So nodes over the same one see the same, however far they see, and put out the same labels. These labels are a solution of problem 0 on the finite graph (`re_cover::given_graph_law`). But it has none, as a search through all labels shows; so no number of rounds is enough given a solution of the input problem (`re_cover::no_solution_given_law`). Where nodes have identifiers or random bits, nodes over the same one may differ, and nothing is said of that here.\n"

abbrev pub labelled_check_text : List ℕ
labelled_check_text = codes "\n## How to check it\n\nThat problem 0 and the input problem are those that are meant is for the reader to see, that each port of each active node stands once at the passive nodes, and that the input labels are a solution of the input problem on the finite graph. What has to be believed, or made again, is the search that found no solution of problem 0 on it. Any program can make it again, or `explore solve < FILE`, where FILE holds the problem, a line `== given`, the input problem, a line `== graph`, the lines of the passive nodes, a line `== labels` and the lines of the input labels. This prints the line at the top of this report and ends with exit status 1. That it prints this line only where there is no solution, and no number of rounds is enough given a solution of the input problem, is proved of its source by machine.\n"

-- the input labels of a node, as a line that stands as it is
abbrev pub labels_line : List (List ℕ) → List ℕ → List ℕ
labels_line names own = codes "   " ++ (image_text names [] own ++ codes "\n")

-- the text is what the block of a report on the two problems, the graph and the labels says
abbrev pub SaysLabelled : Labelled → LabelledBlock → List ℕ → Type 0
SaysLabelled labelled Title text = text ≡ codes "# Report on a finite graph without a solution, given a solution of an input problem\n"
SaysLabelled labelled Line text = text ≡ codes "\n    " ++ given_none_line
SaysLabelled labelled Claim text = text ≡ given_claim true Fixed 0
SaysLabelled labelled Model text = text ≡ given_model labelled.given.problem.active.degree labelled.given.problem.passive.degree
SaysLabelled labelled Edges text = text ≡ given_graph_claim true Fixed 0
SaysLabelled labelled Input text = text ≡ input_text labelled.given.input
SaysLabelled labelled InputActive text = SaysRows (codes "\nActive constraint of the input problem") labelled.given.input.names labelled.given.input.active text
SaysLabelled labelled InputPassive text = SaysRows (codes "\nPassive constraint of the input problem") labelled.given.input.names labelled.given.input.passive text
SaysLabelled labelled (Of block) text = SaysGraph labelled.given.problem labelled.given.graph block text
SaysLabelled labelled Labels text = text ≡ codes "\nThe input labels at the active nodes, a line for each node, in the order of its ports:\n\n" ++ flat_map (labels_line labelled.given.input.names) labelled.labels
SaysLabelled labelled Why text = text ≡ labelled_why_text
SaysLabelled labelled Check text = text ≡ labelled_check_text

-- the text is what the blocks say, one behind the other
abbrev pub WritesLabelled : Labelled → List LabelledBlock → List ℕ → Type 0
WritesLabelled labelled blocks text = WritesBy (SaysLabelled labelled) blocks text

-- the texts in front of the place of a picture and behind it are a report on them in Markdown
pub record AreLabelledParts (labelled : Labelled) (front back : List ℕ) : Type 0 where
  pub begins : WritesLabelled labelled (labelled_front_blocks labelled.given.problem.passive.degree) front
  pub ends : WritesLabelled labelled labelled_back_blocks back
