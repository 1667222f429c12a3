-- The report on evidence of several parts: what follows from them together, the problem, and what each of them shows.
use Rattle.std.specs.Prelude.{◌≡◌, ℕ, zero, suc, Bool, true, false, ◌||◌, List, [], ◌∷◌, ◌++◌, codes, Option, None, Some}
use Rattle.std.specs.Fmt.{decimal}
use Rattle.re_frame.specs.Outcomes.{Outcome}
use Rattle.re_judging.specs.Joints.{behind_joint, first_part, joint_at}
use Rattle.re_judging.specs.PartVerdicts.{IsPart, kind_of}
use Rattle.re_judging.specs.declared.types.Fact.{Fact}
use Rattle.re_judging.specs.declared.types.Fact.TheVariants as says
use Rattle.re_judging.specs.declared.types.Judged.{Judged}
use Rattle.re_judging.specs.declared.types.Judged.TheVariants.{Holds, Refused}
use Rattle.re_judging.specs.declared.types.PartKind.{PartKind}
use Rattle.re_judging.specs.declared.types.PartKind.TheVariants as part
use Rattle.re_labels.specs.declared.sides.Side.TheVariants.{Active as ActiveSide, Passive as PassiveSide}
use Rattle.re_problem.specs.NamedProblems.{NamedProblem}
use Rattle.re_describe.specs.GivenHeads.{lines_block}
use Rattle.re_describe.specs.GraphReports.{graph_notation_text}
use Rattle.re_describe.specs.Heads.{at_most, in_all, model, problem_text}
use Rattle.re_describe.specs.Reports.{SaysRows}
use Rattle.re_describe.specs.Writing.{WritesBy}
use Rattle.re_describe.specs.declared.class_blocks.ClassBlock.{ClassBlock}
use Rattle.re_describe.specs.declared.class_blocks.ClassBlock.TheVariants.{Active, Check, Forests, Lines, Model, Notation, Parts, Passive, Problem, Title}

-- ---- which texts are evidence: such as have a line between parts, and such as hold what `judge` alone decides
abbrev pub is_judged_alone : PartKind → Bool
is_judged_alone part.Certificate = false
is_judged_alone part.Given = false
is_judged_alone part.Graph = false
is_judged_alone part.Length = true
is_judged_alone part.Flexible = true
is_judged_alone part.Greedy = true

abbrev pub has_parts : Option ℕ → Bool
has_parts None = false
has_parts (Some at) = true

abbrev pub is_evidence : List ℕ → Bool
is_evidence bytes = has_parts (joint_at bytes) || is_judged_alone (kind_of bytes)

-- ---- what a part shows
-- what it holds
abbrev pub kind_text : PartKind → List ℕ
kind_text part.Certificate = codes "A certificate that `re check` accepts: "
kind_text part.Given = codes "A certificate and an input problem, which `explore given` accepts: "
kind_text part.Graph = codes "A finite graph without a solution, as `explore solve` says: "
kind_text part.Length = codes "The number of levels of its labels: "
kind_text part.Flexible = codes "A set of its labels: "
kind_text part.Greedy = codes "What may stand around nodes while others put out their labels one after another: "

-- what that says of the problem, with the names of the statements that say it exactly
abbrev pub fact_text : Fact → List ℕ
fact_text (says.MoreThan k) = codes "with port numbers alone problem 0 isn't solvable in " ++ (at_most k ++ codes ".\n")
fact_text (says.AtMost m) = codes "with port numbers alone problem 0 is solvable in " ++ (in_all m ++ codes ".\n")
fact_text says.Never = codes "no number of rounds solves problem 0 with port numbers alone, so with identifiers it takes at least the order of $\\log^* N$ rounds (`re_classes::above_log_star_law`).\n"
fact_text says.FixedPoint = codes "no number of rounds solves problem 0 with port numbers alone, and with identifiers it takes at least the order of $\\log N$ rounds (`re_given_bounds::above_log_law`).\n"
fact_text (says.FewColours ActiveSide) = codes "some number of rounds solves problem 0 given a proper colouring of its active nodes with one colour more than such a node meets others, so with identifiers it takes at most the order of $\\log^* N$ rounds (`re_classes::below_log_star_law`).\n"
fact_text (says.FewColours PassiveSide) = codes "some number of rounds solves problem 0 given a proper colouring of its passive nodes with one colour more than such a node meets others, so with identifiers it takes at most the order of $\\log^* N$ rounds (`re_given_bounds::edge_coloured_law`).\n"
fact_text says.Flexible = codes "it is flexible, so on finite forests problem 0 takes at most the order of $\\log N$ rounds (`re_forests::below_log_law`), and where both degrees are 2 of $\\log^* N$ (`re_forests::paths_law`).\n"
fact_text (says.Length k) = codes "it is " ++ (decimal k ++ codes ", and no set of labels is flexible, so no number of rounds solves problem 0 with port numbers alone, and with identifiers it takes at least the order of $\\log N$ rounds (`re_gap::not_flexible_law`), on finite forests that of $N$ where there is 1 (`re_forests::above_linear_law`).\n")
fact_text says.NoSolution = codes "it is 0, since trimming leaves none, so finite forests of enough nodes have no solution of problem 0 (`re_forests::never_law`).\n"
fact_text says.Nothing = codes "nothing follows from it without that input.\n"

-- what a part that holds shows; one that doesn't shows nothing
abbrev pub judged_text : ℕ → PartKind → Judged → List ℕ
judged_text number kind (Holds part) = (codes "\n## Part " ++ (decimal number ++ codes "\n\n")) ++ (kind_text kind ++ fact_text part.fact)
judged_text number kind (Refused output) = []

abbrev pub SaysPart : ℕ → List ℕ → List ℕ → Type 0
SaysPart number bytes text = (judged : Judged) × IsPart bytes judged × (text ≡ judged_text number (kind_of bytes) judged)

-- the first part, and behind it those that the text behind it holds
abbrev pub SaysFirst : (List ℕ → List ℕ → Type 0) → Option ℕ → ℕ → List ℕ → List ℕ → Type 0
SaysFirst SaysRest None number bytes text = SaysPart number (first_part bytes) text
SaysFirst SaysRest (Some at) number bytes text =
    (said : List ℕ) × (rest : List ℕ) × SaysPart number (first_part bytes) said × SaysRest (behind_joint at bytes) rest × (text ≡ said ++ rest)

-- the first part of a text, and at most so many more behind it, of which the first has this number
abbrev pub SaysParts : ℕ → ℕ → List ℕ → List ℕ → Type 0
SaysParts zero number bytes text = SaysPart number (first_part bytes) text
SaysParts (suc more) number bytes text = SaysFirst (SaysParts more (suc number)) (joint_at bytes) number bytes text

-- ---- the blocks
abbrev pub class_blocks : List ClassBlock
class_blocks = Title ∷ Lines ∷ Model ∷ Forests ∷ Notation ∷ Problem ∷ Active ∷ Passive ∷ Parts ∷ Check ∷ []

-- where algorithms with identifiers run
abbrev pub forests_text : List ℕ
forests_text = codes "\nWhat is said with identifiers is said of finite forests of $N$ nodes, whose identifiers are the numbers below $N$, as $N$ grows; nodes that lack neighbours may have any labels. Numbers of rounds are those on the tree: on forests one round more may be needed, and one fewer may be enough.\n"

abbrev pub class_check_text : List ℕ
class_check_text = codes "\n## How to check it\n\nThat problem 0 is the problem that is meant is for the reader to see. The parts are judged by `explore judge < FILE`, where FILE holds them, with a line `=====` between two of them: it prints the lines at the top of this report and ends with exit status 0. `explore describe` gives a report on each part that is a certificate or a graph. That `explore judge` takes a part only where it shows what is said here, and prints only lines that are true of problem 0, is proved of its source by machine (`re_judging::judge_law`).\n"

-- the text is what the block of a report on the evidence, of which `judge` answers this, says
abbrev pub SaysClass : List ℕ → NamedProblem → Outcome → ClassBlock → List ℕ → Type 0
SaysClass bytes problem told Title text = text ≡ codes "# Report on evidence\n"
SaysClass bytes problem told Lines text = text ≡ lines_block told.text
SaysClass bytes problem told Model text = text ≡ model problem.active.degree problem.passive.degree
SaysClass bytes problem told Forests text = text ≡ forests_text
SaysClass bytes problem told Notation text = text ≡ graph_notation_text
SaysClass bytes problem told Problem text = text ≡ problem_text 0 problem
SaysClass bytes problem told Active text = SaysRows (codes "\nActive constraint") problem.names problem.active text
SaysClass bytes problem told Passive text = SaysRows (codes "\nPassive constraint") problem.names problem.passive text
SaysClass bytes problem told Parts text = SaysParts 15 1 bytes text
SaysClass bytes problem told Check text = text ≡ class_check_text

-- the text is a report on the evidence in Markdown
abbrev pub IsClassMarkdown : List ℕ → NamedProblem → Outcome → List ℕ → Type 0
IsClassMarkdown bytes problem told text = WritesBy (SaysClass bytes problem told) class_blocks text
