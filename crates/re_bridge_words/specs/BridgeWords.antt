-- What the word `bridge` answers.
use Rattle.std.specs.Prelude.{ℕ, suc, nat_lt, List, codes, length, if◌then◌else◌, Some}
use Rattle.re_problem.specs.NamedProblems.{NamedProblem}
use Rattle.re_cert.specs.Bounds.{Bound, last_problem}
use Rattle.re_cert.specs.declared.certificate.Kind.{Kind}
use Rattle.re_cert.specs.declared.certificate.Kind.TheVariants.{Fixed, Lower, Upper}
use Rattle.re_cert.specs.declared.certificate.TheConstants.{MAX_STEPS}
use Rattle.re_chains.specs.Chains.{chain_of}
use Rattle.re_chains.specs.OverChains.{IsTextOf, certificate_outcome, or_fault, or_refusal, steps_refusal}
use Rattle.re_frame.specs.Outcomes.{Outcome, limit, limit_of, refused}
use Rattle.re_limits.specs.StepLimits.{limit_line}
use Rattle.re_step.specs.declared.derivation.StepLimit.TheVariants.{Rows}
use Rattle.re_walks.specs.Walking.{Walk, cut, found, nowhere}
use Rattle.re_bridge.specs.Bridges.{Bridge, bridge_of, cut_off, has_many_rows, missing, over}
use Rattle.re_bridge.specs.Bridged.{IsBridged, bridged}
use Rattle.re_bridge_words.specs.UpperBridged.{IsUpperBridged, sets_by, upper_bridged, upper_walk}
use Rattle.re_chains.specs.TwoTexts.{back_problem, front_bound, two_fault}
use Rattle.re_bridge_words.specs.declared.answering.TheConstants.{MAX_TRIES}

-- the chain with the step by the map of the bridge, or that there is none, or that the tries don't suffice
abbrev pub over_bridge : Bridge → NamedProblem → Bound → Outcome
over_bridge (over map) next chain = certificate_outcome (bridged chain next map)
over_bridge missing next chain = refused (codes "no\n")
over_bridge cut_off next chain = limit_of MAX_TRIES (codes "tries")

-- the limits that come before: of the steps of a chain, and of the rows of a step
abbrev pub bridge_outcome : NamedProblem → Bound → Outcome
bridge_outcome next chain =
    if nat_lt (length chain.steps) MAX_STEPS
    then if has_many_rows (last_problem chain) next then limit (limit_line (suc (length chain.steps)) Rows) else over_bridge (bridge_of (last_problem chain) next MAX_TRIES) next chain
    else limit_of MAX_STEPS (codes "steps")

-- ---- of kind upper
-- the chain with the step by the sets that the walk finds, or that there are none, or that the tries don't suffice
abbrev pub over_walk : Walk → NamedProblem → Bound → Outcome
over_walk (found labels) next chain = certificate_outcome (upper_bridged chain next (sets_by next labels))
over_walk nowhere next chain = refused (codes "no\n")
over_walk cut next chain = limit_of MAX_TRIES (codes "tries")

abbrev pub upper_outcome : NamedProblem → Bound → Outcome
upper_outcome next chain =
    if nat_lt (length chain.steps) MAX_STEPS then over_walk (upper_walk (last_problem chain) next MAX_TRIES) next chain else limit_of MAX_STEPS (codes "steps")

-- ---- of either kind
abbrev pub kind_outcome : Kind → NamedProblem → Bound → Outcome
kind_outcome Upper next chain = upper_outcome next chain
kind_outcome Lower next chain = bridge_outcome next chain
kind_outcome Fixed next chain = bridge_outcome next chain

-- the line of `check` for the first step that fails, and else what is given to the chain
abbrev pub sound_outcome : NamedProblem → Bound → Outcome
sound_outcome next chain = or_refusal (steps_refusal chain) (kind_outcome chain.kind next chain)

-- what the word gives to a text: a bound, a line `== to` and a problem; a fixed point stands for the chain of its steps
unfoldable pub text_outcome : List ℕ → Outcome
text_outcome bytes = or_fault (two_fault (codes "to") bytes) (sound_outcome (back_problem (codes "to") bytes) (chain_of (front_bound (codes "to") bytes)))

-- ---- what is known of the text of an answer Done
-- it is read as a chain, and that is the given one with the step to the next problem by the map of the bridge, or in a chain of kind
-- upper by the sets of the walk, and sound
abbrev pub IsLongerText : Kind → NamedProblem → Bound → List ℕ → Type 0
IsLongerText Upper next chain text = (longer : Bound) × IsTextOf longer text × IsUpperBridged chain next MAX_TRIES (Some longer)
IsLongerText Lower next chain text = (longer : Bound) × IsTextOf longer text × IsBridged chain next MAX_TRIES (Some longer)
IsLongerText Fixed next chain text = (longer : Bound) × IsTextOf longer text × IsBridged chain next MAX_TRIES (Some longer)

abbrev pub IsBridgedText : NamedProblem → Bound → List ℕ → Type 0
IsBridgedText next chain text = IsLongerText chain.kind next chain text

unfoldable pub BridgeWorth : List ℕ → List ℕ → Type 0
BridgeWorth bytes text = IsBridgedText (back_problem (codes "to") bytes) (chain_of (front_bound (codes "to") bytes)) text
