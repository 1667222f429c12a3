-- Parts of evidence that hold multisets with which a problem behind upper steps is greedy from one side.
use Rattle.std.specs.Prelude.{◌≡◌, ◌⊎◌, ℕ, ◌+◌, nat_lt, Bool, true, false, not, ◌||◌, List, [], ◌∷◌, ◌++◌, codes, length, option_map, Option, None, Some, Result, Ok, Err}
use Rattle.re_cert.specs.Bounds.{Bound, is_lower, last_problem}
use Rattle.re_chains.specs.ChainTexts.{chain_fault}
use Rattle.re_chains.specs.OverChains.{steps_refusal}
use Rattle.re_chains.specs.TwoTexts.{at_line, front_text, lines_behind, lines_to}
use Rattle.re_check.specs.declared.verdict.Verdict.{Verdict}
use Rattle.re_frame.specs.Check.{verdict_outcome}
use Rattle.re_frame.specs.Outcomes.{Outcome, limit_of, outcome_of, refused}
use Rattle.re_frame.specs.SearchLines.{not_upper_line}
use Rattle.re_frame.specs.TextFaults.{fault_outcome}
use Rattle.re_greedy.specs.Findings.{IsBeyond}
use Rattle.re_greedy.specs.Greedy.{IsGreedy}
use Rattle.re_greedy.specs.declared.finding.TheConstants.{MAX_MULTISETS}
use Rattle.re_inputs.specs.NamedInputs.{named_exchanged}
use Rattle.re_judging.specs.PartAnswers.{IsRefusedWith}
use Rattle.re_judging.specs.LabelLines.{and_then, multisets_on, side_on}
use Rattle.re_judging.specs.Turns.{Turns}
use Rattle.re_judging.specs.declared.types.Fact.TheVariants as says
use Rattle.re_judging.specs.declared.types.Judged.{Judged}
use Rattle.re_judging.specs.declared.types.Judged.TheVariants.{Holds, Refused}
use Rattle.re_labels.specs.declared.sides.Side.{Side}
use Rattle.re_labels.specs.declared.sides.Side.TheVariants.{Active, Passive}
use Rattle.re_problem.specs.ItemSteps.{is_nil}
use Rattle.re_problem.specs.NamedProblems.{NamedProblem, unnamed}
use Rattle.re_problem.specs.declared.fault.InputFault.{InputFault}
use Rattle.re_problem.specs.declared.fault.InputFault.TheVariants.{EarlyEnd}

-- ---- the text
-- the problem whose active nodes are those of the side
abbrev pub seen_from : Side → NamedProblem → NamedProblem
seen_from Active problem = problem
seen_from Passive problem = named_exchanged problem

-- the side that the first line names, and the multisets of the lines behind it, of labels of this problem: at least one label, and fewer than a node of
-- the other side meets
abbrev pub turns_from : NamedProblem → ℕ → List (List ℕ) → Side → Result Turns InputFault
turns_from problem number lines side =
    and_then (multisets_on problem.names (seen_from side problem).passive.degree number lines) (λ multisets. Ok (record { side = side; multisets = multisets }))

abbrev pub turns_on : NamedProblem → ℕ → List (List ℕ) → Result Turns InputFault
turns_on problem number [] = Err EarlyEnd
turns_on problem number (line ∷ lines) = and_then (side_on number line) (turns_from problem (number + 1) lines)

-- ---- what comes of it
-- a chain of upper steps, which one without steps is too
abbrev pub is_upper_chain : Bound → Bool
is_upper_chain chain = not (is_lower chain.kind) || is_nil chain.steps

-- these multisets, the empty one and all passive configurations
abbrev pub whole_list : Turns → NamedProblem → List (List ℕ)
whole_list turns problem = [] ∷ (turns.multisets ++ (seen_from turns.side problem).passive.configs)

-- the problem is greedy with them from the side
abbrev pub IsGreedyFrom : Turns → NamedProblem → Type 0
IsGreedyFrom turns problem = IsGreedy (unnamed (seen_from turns.side problem)) (whole_list turns problem)

-- a million tries may not be enough to tell
abbrev pub MayPassTries : Turns → NamedProblem → Type 0
MayPassTries turns problem = IsBeyond (unnamed (seen_from turns.side problem)) (whole_list turns problem) 1000000

-- the lines where it isn't, and where so many tries weren't enough to tell
abbrev pub not_greedy : Outcome
not_greedy = refused (codes "no: not greedy with these multisets\n")

abbrev pub tries_limit : Outcome
tries_limit = limit_of 1000000 (codes "tries")

abbrev pub IsGreedyBy : Turns → Bound → Judged → Type 0
IsGreedyBy turns chain (Holds part) = IsGreedyFrom turns (last_problem chain) × (part.problem ≡ chain.first) × (part.fact ≡ says.FewColours Active)
IsGreedyBy turns chain (Refused output) =
    ((outcome_of output ≡ not_greedy) × (IsGreedyFrom turns (last_problem chain) → ⊥)) ⊎ ((outcome_of output ≡ tries_limit) × MayPassTries turns (last_problem chain))

-- only few multisets are taken
abbrev pub IsFewBy : Bool → Turns → Bound → Judged → Type 0
IsFewBy true turns chain judged = IsRefusedWith (limit_of MAX_MULTISETS (codes "multisets")) judged
IsFewBy false turns chain judged = IsGreedyBy turns chain judged

-- only upper steps are
abbrev pub IsUpperBy : Bool → Turns → Bound → Judged → Type 0
IsUpperBy false turns chain judged = IsRefusedWith (refused not_upper_line) judged
IsUpperBy true turns chain judged = IsFewBy (nat_lt MAX_MULTISETS (length turns.multisets)) turns chain judged

-- and each of them has to meet its clauses
abbrev pub IsSoundBy : Option Verdict → Turns → Bound → Judged → Type 0
IsSoundBy (Some verdict) turns chain judged = IsRefusedWith (verdict_outcome verdict) judged
IsSoundBy None turns chain judged = IsUpperBy (is_upper_chain chain) turns chain judged

abbrev pub IsTurnedBy : Result Turns InputFault → Bound → Judged → Type 0
IsTurnedBy (Err fault) chain judged = IsRefusedWith (fault_outcome fault) judged
IsTurnedBy (Ok turns) chain judged = IsSoundBy (steps_refusal chain) turns chain judged

-- the first fault of the chain in front of the line
abbrev pub chain_front_fault : List ℕ → Option InputFault
chain_front_fault bytes = option_map (at_line (length (lines_to (codes "greedy") bytes))) (chain_fault (front_text (codes "greedy") bytes))

abbrev pub IsGreedyPart : Option InputFault → Bound → List ℕ → Judged → Type 0
IsGreedyPart (Some fault) chain bytes judged = IsRefusedWith (fault_outcome fault) judged
IsGreedyPart None chain bytes judged =
    IsTurnedBy (turns_on (last_problem chain) (length (lines_to (codes "greedy") bytes) + 1) (lines_behind (codes "greedy") bytes)) chain judged
