-- What the words may answer.
use Rattle.std.proofs.Common.{ℕ, Bool, true, false, codes, List, Option, Some, None, Result, Ok, Err, inl, inr, refl}
use Rattle.re_cover.specs.Graphs.{PortGraph}
use Rattle.re_frame.proofs.Said.{fault_says, says_as}
use Rattle.re_frame.specs.Outcomes.{Outcome}
use Rattle.re_frame.specs.Runs.{MaySay}
use Rattle.re_graph.specs.Solving.{solution_walk}
use Rattle.re_problem.specs.NamedProblems.{NamedProblem, unnamed}
use Rattle.re_problem.specs.ProblemTexts.{first_fault, lines_of, problem_of}
use Rattle.re_problem.specs.declared.fault.InputFault.{InputFault}
use Rattle.re_walks.specs.Walking.{Walk, cut, found, nowhere}
use Rattle.re_graph_words.specs.Faults.{graph_fault_outcome}
use Rattle.re_graph_words.specs.GraphInputs.{graph_input}
use Rattle.re_settings.specs.InputProblems.{input_fault}
use Rattle.re_settings.specs.declared.inputs.InputFault.{InputFault as Fault}
use Rattle.re_settings.specs.GivenTexts.{given_fault, given_input, given_problem}
use Rattle.re_settings.specs.InputFaults.{or_input_fault}
use Rattle.re_graph.specs.Judging.{labels_fault}
use Rattle.re_graph.specs.declared.judging.LabelsFault.{LabelsFault}
use Rattle.re_chains.specs.TwoTexts.{has_line}
use Rattle.re_graph_words.specs.GivenCovers.{MayCoverBeside, MayCoverGiven, MayCoverGivenRead}
use Rattle.re_graph_words.specs.GivenInputs.{Labelled, labelled_input}
use Rattle.re_graph_words.specs.GivenSolutions.{given_none_line, labelled_outcome, or_labels_fault}
use Rattle.re_graph_words.specs.GraphWords.{MayCover, MayCoverBy, MayCoverRead, MayGive}
use Rattle.re_graph_words.specs.SolveWords.{outcome_by, read_labelled_outcome, read_outcome, solve_outcome}
use Rattle.re_graph_words.specs.Solutions.{solution_outcome, walked_with}
use Rattle.re_graph_words.specs.declared.faults.GraphFault.{GraphFault}
use Rattle.re_graph_words.specs.declared.faults.GraphFault.TheVariants.{EndMissing, EndTwice, NoSuchEnd, NotEnds, Text, TooManyNodes}
use Rattle.re_graph_words.specs.declared.solving.TheConstants.{MAX_TRIES}
use Rattle.re_graph_words.specs.declared.texts.GraphText.{GraphText}
use Rattle.re_graph_words.specs.declared.words.GraphWord.{GraphWord}
use Rattle.re_graph_words.specs.declared.words.GraphWord.TheVariants.{Cover, Solve}

walk_says : (line : List ℕ) (problem : NamedProblem) (graph : PortGraph) (w : Walk) → MaySay (walked_with line problem graph w).status true
walk_says line problem graph (found labels) = tt
walk_says line problem graph nowhere = refl
walk_says line problem graph cut = tt

solution_says : (line : List ℕ) (problem : NamedProblem) (graph : PortGraph) → MaySay (solution_outcome line problem graph).status true
solution_says line problem graph = walk_says line problem graph (solution_walk (unnamed problem) graph MAX_TRIES)

graph_says : (fault : GraphFault) → MaySay (graph_fault_outcome fault).status true
graph_says (Text fault) = fault_says fault true
graph_says (NotEnds line) = tt
graph_says (NoSuchEnd line) = tt
graph_says (EndTwice line) = tt
graph_says (EndMissing line) = tt
graph_says (TooManyNodes line) = tt

read_says : (read : Result GraphText GraphFault) → MaySay (read_outcome read).status true
read_says (Ok text) = solution_says _ text.problem text.graph
read_says (Err fault) = graph_says fault

labels_say : (fault : Option LabelsFault) (outcome : Outcome) → MaySay outcome.status true → MaySay (or_labels_fault fault outcome).status true
labels_say (Some fault) outcome may = refl
labels_say None outcome may = may

input_says : (input : NamedProblem) (fault : Option Fault) (outcome : Outcome) → MaySay outcome.status true → MaySay (or_input_fault input fault outcome).status true
input_says input (Some fault) outcome may = refl
input_says input None outcome may = may

labelled_says : (read : Result Labelled GraphFault) → MaySay (read_labelled_outcome read).status true
labelled_says (Ok labelled) =
    input_says labelled.given.input (input_fault labelled.given.problem labelled.given.input) _
    (labels_say (labels_fault (unnamed labelled.given.input) labelled.given.graph labelled.labels) _ (solution_says given_none_line labelled.given.problem labelled.given.graph))
labelled_says (Err fault) = graph_says fault

by_says : (given : Bool) (bytes : List ℕ) → MaySay (outcome_by given bytes).status true
by_says true bytes = labelled_says (labelled_input bytes)
by_says false bytes = read_says (graph_input bytes)

solve_says : (bytes : List ℕ) → MaySay (solve_outcome bytes).status true
unfolding solve_outcome
solve_says bytes = by_says (has_line (codes "given") bytes) bytes

cover_says : (problem : NamedProblem) (most : ℕ) (outcome : Outcome) → MayCover problem most outcome → MaySay outcome.status true
cover_says problem most outcome (inl may) = says_as outcome _ may.text tt
cover_says problem most outcome (inr (inl may)) = says_as outcome _ may.1 refl
cover_says problem most outcome (inr (inr may)) = says_as outcome _ may.0 tt

read_cover_says : (fault : Option InputFault) (problem : NamedProblem) (most : ℕ) (outcome : Outcome) → MayCoverRead fault problem most outcome → MaySay outcome.status true
read_cover_says (Some fault) problem most outcome may = says_as outcome _ may (fault_says fault true)
read_cover_says None problem most outcome may = cover_says problem most outcome may

given_cover_says : (problem input : NamedProblem) (most : ℕ) (outcome : Outcome) → MayCoverGiven problem input most outcome → MaySay outcome.status true
given_cover_says problem input most outcome (inl may) = says_as outcome _ may.text tt
given_cover_says problem input most outcome (inr (inl may)) = says_as outcome _ may.1 refl
given_cover_says problem input most outcome (inr (inr may)) = says_as outcome _ may.0 tt

beside_says : (fault : Option Fault) (problem input : NamedProblem) (most : ℕ) (outcome : Outcome) → MayCoverBeside fault problem input most outcome → MaySay outcome.status true
beside_says (Some fault) problem input most outcome may = says_as outcome _ may refl
beside_says None problem input most outcome may = given_cover_says problem input most outcome may

given_read_says : (fault : Option InputFault) (problem input : NamedProblem) (most : ℕ) (outcome : Outcome) → MayCoverGivenRead fault problem input most outcome → MaySay outcome.status true
given_read_says (Some fault) problem input most outcome may = says_as outcome _ may (fault_says fault true)
given_read_says None problem input most outcome may = beside_says (input_fault problem input) problem input most outcome may

cover_by_says : (given : Bool) (most : ℕ) (bytes : List ℕ) (outcome : Outcome) → MayCoverBy given most bytes outcome → MaySay outcome.status true
cover_by_says true most bytes outcome may = given_read_says (given_fault bytes) (given_problem bytes) (given_input bytes) most outcome may
cover_by_says false most bytes outcome may = read_cover_says (first_fault 0 1 (lines_of bytes)) (problem_of (lines_of bytes)) most outcome may

pub give_says : (word : GraphWord) (bytes : List ℕ) (outcome : Outcome) → MayGive word bytes outcome → MaySay outcome.status true
unfolding MayGive
give_says Solve bytes outcome may = says_as outcome _ may.answer (solve_says bytes)
give_says (Cover most) bytes outcome may = cover_by_says (has_line (codes "given") bytes) most bytes outcome may
