-- What words show of a problem given an input problem.
use Rattle.std.specs.Prelude.{◌≡◌, ◌⊎◌, ◌≤◌, ◌+◌, ℕ, List, [], length, None, Some}
use Rattle.re_cert.specs.Bounds.{Bound}
use Rattle.re_cert.specs.declared.certificate.Kind.TheVariants.{Fixed, Lower, Upper}
use Rattle.re_chains.specs.Chains.{chain_with}
use Rattle.re_chains.specs.ChainTexts.{problem_chain}
use Rattle.re_closure.specs.Closures.{IsClosed}
use Rattle.re_cover.specs.Graphs.{PortGraph}
use Rattle.re_given_words.specs.Counting.{IsCounted}
use Rattle.re_given_words.specs.Extensions.{GoesOnGiven}
use Rattle.re_settings.specs.Taken.{IsTaken}
use Rattle.re_given_words.specs.declared.counting.Counted.{Counted}
use Rattle.re_graph.specs.Solving.{IsGivenCover}
use Rattle.re_given_bounds.specs.Telling.{TellsPassive}
use Rattle.re_labels.specs.declared.TheConstants.{MAX_LABELS}
use Rattle.re_problem.specs.NamedProblems.{NamedProblem, unnamed}
use Rattle.re_settle.specs.Measures.{doublings, greatest_degree, longest_labels, longest_steps}
use Rattle.re_settle.specs.Ways.{HasText, IsTried, SaysCounted}
use Rattle.re_evidence.specs.declared.types.Claim.{Claim}
use Rattle.re_evidence.specs.declared.types.Claim.TheVariants.{AtMost, Exactly, MoreThan, Never}
use Rattle.re_settle.specs.declared.types.Shown.{Shown}
use Rattle.re_settle.specs.declared.types.Way.{Way}
use Rattle.re_settle.specs.declared.types.Way.TheVariants.{Closure, Cover, Cycle, Longest, Rounds, Shortest}
use Rattle.re_evidence.specs.Claims.{HoldsGiven}
use Rattle.re_settle.specs.GivenClaims.{claim_given}
use Rattle.re_settle.specs.declared.given_types.SettledGiven.{SettledGiven}
use Rattle.re_settle.specs.declared.given_types.SettledGiven.TheVariants as settled
use Rattle.re_chains.specs.GivenTexts.{IsGivenText, given_text}

-- ---- which words are tried
-- `longest` is asked for problems of 4 labels, and of as many as on a problem alone
abbrev pub IsLabelsGiven : ℕ → NamedProblem → ℕ → Type 0
IsLabelsGiven times problem labels = (labels ≡ 4) ⊎ (labels ≡ longest_labels (greatest_degree problem) (doublings times))

-- the numbers of the words that are tried on a problem given an input problem, where bounds are taken so many times: at most 8 rounds are counted, the closure is
-- that of the problem itself, and the others have the numbers that they have on a problem alone, but for those of labels
abbrev pub IsTriedGiven : ℕ → NamedProblem → Way → Type 0
IsTriedGiven times problem (Rounds most) = most ≤ 8
IsTriedGiven times problem (Closure steps) = steps ≡ 0
IsTriedGiven times problem (Cover nodes) = IsTried times problem (Cover nodes)
IsTriedGiven times problem (Cycle steps merges nodes) = IsTried times problem (Cycle steps merges nodes)
IsTriedGiven times problem (Longest steps labels) = (steps ≡ longest_steps (doublings times)) × IsLabelsGiven times problem labels
IsTriedGiven times problem (Shortest steps labels) = IsTried times problem (Shortest steps labels)
IsTriedGiven times problem way = ⊥

-- ---- what they show
-- the text of the bound, the line `== given` and the text of the input problem are together no longer than a text that is read, and are read as both
abbrev pub HasGivenText : Bound → NamedProblem → Type 0
HasGivenText bound input = IsGivenText bound input (given_text bound input)

-- the closure of the problem gives a fixed point that `given` accepts given the input problem; it has a text, and one with the input problem behind it
pub record ClosesGiven (problem input : NamedProblem) : Type 0 where
  pub bound : Bound
  pub closed : IsClosed (problem_chain problem) bound
  pub text : HasText bound
  pub taken : IsTaken input bound
  pub both : HasGivenText bound input

-- what an answer of these words to the problem and the input problem shows: `rounds` what it counts; `closure` the fixed point that `given` accepts; `cover` a
-- graph without a solution of the problem, with one of the input problem; `cycle`, `longest` and `shortest` a bound that they may find
abbrev pub ShowsGiven : Way → Claim → NamedProblem → NamedProblem → Type 0
ShowsGiven (Rounds most) claim problem input = (counts : Counted) × IsCounted (unnamed problem) (Some (unnamed input)) most counts × SaysCounted counts claim
ShowsGiven (Closure steps) claim problem input = (claim ≡ Never) × ClosesGiven problem input
ShowsGiven (Cover nodes) claim problem input = (claim ≡ Never) × ((graph : PortGraph) × (labels : List ℕ) × IsGivenCover problem input nodes graph labels)
ShowsGiven (Cycle steps merges nodes) claim problem input =
    (claim ≡ Never) × ((bound : Bound) × GoesOnGiven input Fixed steps MAX_LABELS (problem_chain problem) bound × HasGivenText bound input)
ShowsGiven (Longest steps labels) claim problem input =
    (bound : Bound) × (claim ≡ MoreThan (length bound.steps)) × GoesOnGiven input Lower steps labels (problem_chain problem) bound × HasGivenText bound input
ShowsGiven (Shortest steps labels) claim problem input =
    (bound : Bound) × (claim ≡ AtMost (length bound.steps)) × GoesOnGiven input Upper steps labels (chain_with Upper problem []) bound × HasGivenText bound input
ShowsGiven way claim problem input = ⊥

-- the words are tried, where bounds are taken so many times, and show the claim
pub record IsShownGiven (times : ℕ) (problem input : NamedProblem) (claim : Claim) (way : Way) : Type 0 where
  pub tried : IsTriedGiven times problem way
  pub shows : ShowsGiven way claim problem input

-- so they do, and it is true
pub record IsKnownGiven (times : ℕ) (problem input : NamedProblem) (claim : Claim) (way : Way) : Type 0 where
  pub shown : IsShownGiven times problem input claim way
  pub holds : HoldsGiven claim (unnamed problem) input

-- the words show that some number of rounds is too few; so is one more, since the input problem with its sides exchanged that often has labels that
-- tell in which passive configuration they stand
pub record IsShownBeyond (times : ℕ) (problem input : NamedProblem) (rounds : ℕ) (shown : Shown) : Type 0 where
  pub next : rounds ≡ shown.rounds + 1
  pub few : IsShownGiven times problem input (MoreThan shown.rounds) shown.way
  pub tells : TellsPassive shown.rounds (unnamed input)

-- each of the words shows its part of what is known
abbrev pub AreShownGiven : ℕ → SettledGiven → NamedProblem → NamedProblem → Type 0
AreShownGiven times (settled.Exactly shown) problem input = IsShownGiven times problem input (Exactly shown.rounds) shown.way
AreShownGiven times (settled.Never way) problem input = IsShownGiven times problem input Never way
AreShownGiven times (settled.Within more None) problem input = IsShownGiven times problem input (MoreThan more.rounds) more.way
AreShownGiven times (settled.Within more (Some most)) problem input =
    IsShownGiven times problem input (MoreThan more.rounds) more.way × IsShownGiven times problem input (AtMost most.rounds) most.way
AreShownGiven times (settled.Beyond rounds shown None) problem input = IsShownBeyond times problem input rounds shown
AreShownGiven times (settled.Beyond rounds shown (Some most)) problem input =
    IsShownBeyond times problem input rounds shown × IsShownGiven times problem input (AtMost most.rounds) most.way
AreShownGiven times (settled.AtMost most) problem input = IsShownGiven times problem input (AtMost most.rounds) most.way

-- so much is known of the problem given the input problem, where bounds are taken so many times: words show it, and what is claimed is true
pub record IsSettledGiven (times : ℕ) (problem input : NamedProblem) (settled : SettledGiven) : Type 0 where
  pub shown : AreShownGiven times settled problem input
  pub holds : HoldsGiven (claim_given settled) (unnamed problem) input
