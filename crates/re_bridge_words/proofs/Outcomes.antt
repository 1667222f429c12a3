-- What is given to a chain, case by case, and what may be said.
use Rattle.std.proofs.Common.{◌≡◌, ℕ, suc, ◌<◌, Bool, true, false, List, length, refl, ap, ◌∙◌, codes, Option, Some, None}
use Rattle.std.specs.Prelude.{if◌then◌else◌, nat_lt}
use Rattle.re_labels.proofs.Tests.{true-below}
use Rattle.re_problem.specs.NamedProblems.{NamedProblem}
use Rattle.re_problem.specs.ProblemTexts.{first_fault, lines_of, problem_of}
use Rattle.re_cert.specs.Bounds.{Bound, last_problem}
use Rattle.re_cert.specs.declared.certificate.Kind.{Kind}
use Rattle.re_cert.specs.declared.certificate.Kind.TheVariants.{Fixed, Lower, Upper}
use Rattle.re_cert.specs.declared.certificate.TheConstants.{MAX_STEPS}
use Rattle.re_check.specs.declared.verdict.Verdict.{Verdict}
use Rattle.re_chains.proofs.WordsGiven.{certificate_says, or_fault_says, problem_says}
use Rattle.re_chains.specs.OverChains.{or_refusal, steps_refusal}
use Rattle.re_frame.proofs.Said.{check_says}
use Rattle.re_frame.specs.Outcomes.{Outcome, limit, limit_of}
use Rattle.re_frame.specs.Runs.{MaySay}
use Rattle.re_limits.specs.StepLimits.{limit_line}
use Rattle.re_step.specs.declared.derivation.StepLimit.TheVariants.{Rows}
use Rattle.re_walks.specs.Walking.{Walk, cut, found, nowhere}
use Rattle.re_bridge.specs.Bridges.{Bridge, bridge_of, cut_off, has_many_rows, missing, over}
use Rattle.re_bridge.specs.Reductions.{reduced_of}
use Rattle.re_chains.specs.Chains.{chain_of}
use Rattle.re_settings.specs.InputProblems.{input_fault}
use Rattle.re_settings.specs.declared.inputs.InputFault.{InputFault}
use Rattle.re_settings.specs.GivenTexts.{given_fault, given_input, given_problem}
use Rattle.re_settings.specs.InputFaults.{or_input_fault}
use Rattle.re_given_words.specs.ProductTexts.{product_refusal}
use Rattle.re_inputs.specs.NamedProducts.{named_product, product_fault}
use Rattle.re_inputs.specs.declared.products.ProductFault.{ProductFault}
use Rattle.re_inputs.specs.declared.products.ProductFault.TheVariants.{Nameless, NoMemory, TooManyConfigurations, TooManyLabels}
use Rattle.re_chains.specs.TwoTexts.{back_problem, front_bound, has_line, two_fault}
use Rattle.re_bridge.specs.Bridged.{bridged}
use Rattle.re_bridge_words.specs.UpperBridged.{sets_by, upper_bridged, upper_walk}
use Rattle.re_bridge_words.specs.BridgeWords.{bridge_outcome, kind_outcome, over_bridge, over_walk, sound_outcome, text_outcome, upper_outcome}
use Rattle.re_bridge_words.specs.Answers.{word_outcome}
use Rattle.re_bridge_words.specs.ReduceWords.{given_outcome, outcome_by, plain_outcome, reduce_outcome, reduced_given, reduced_outcome, reduced_product}
use Rattle.re_bridge_words.specs.declared.answering.TheConstants.{MAX_TRIES}
use Rattle.re_bridge_words.specs.declared.words.BridgeWord.{BridgeWord}
use Rattle.re_bridge_words.specs.declared.words.BridgeWord.TheVariants.{Bridge as BridgeTo, Reduce}

-- ---- by cases

module _ (next : NamedProblem) (chain : Bound) where
  roomy : length chain.steps < MAX_STEPS → (many : Bool) → has_many_rows (last_problem chain) next ≡ many → (bridge : Bridge) → bridge_of (last_problem chain) next MAX_TRIES ≡ bridge
      → bridge_outcome next chain ≡ (if many then limit (limit_line (suc (length chain.steps)) Rows) else over_bridge bridge next chain)
  roomy room many is bridge told =
      ap (λ b. if b then if has_many_rows (last_problem chain) next then limit (limit_line (suc (length chain.steps)) Rows) else over_bridge (bridge_of (last_problem chain) next MAX_TRIES) next chain
      else limit_of MAX_STEPS (codes "steps")) (true-below (length chain.steps) MAX_STEPS room)
      ∙ ap (λ b. if b then limit (limit_line (suc (length chain.steps)) Rows) else over_bridge (bridge_of (last_problem chain) next MAX_TRIES) next chain) is
      ∙ ap (λ b. if many then limit (limit_line (suc (length chain.steps)) Rows) else over_bridge b next chain) told

  -- there are too many rows
  pub many_rows : length chain.steps < MAX_STEPS → has_many_rows (last_problem chain) next ≡ true → bridge_outcome next chain ≡ limit (limit_line (suc (length chain.steps)) Rows)
  many_rows room many = roomy room true many (bridge_of (last_problem chain) next MAX_TRIES) refl

  -- the bridge tells
  pub by_bridge : length chain.steps < MAX_STEPS → has_many_rows (last_problem chain) next ≡ false → (bridge : Bridge) → bridge_of (last_problem chain) next MAX_TRIES ≡ bridge
      → bridge_outcome next chain ≡ over_bridge bridge next chain
  by_bridge room few bridge told = roomy room false few bridge told

  -- the walk for upper steps tells
  pub by_walk : length chain.steps < MAX_STEPS → (w : Walk) → upper_walk (last_problem chain) next MAX_TRIES ≡ w → upper_outcome next chain ≡ over_walk w next chain
  by_walk room w is =
      ap (λ b. if b then over_walk (upper_walk (last_problem chain) next MAX_TRIES) next chain else limit_of MAX_STEPS (codes "steps")) (true-below (length chain.steps) MAX_STEPS room)
      ∙ ap (λ w. over_walk w next chain) is

-- ---- what may be said
walk_says : (w : Walk) (next : NamedProblem) (chain : Bound) → MaySay (over_walk w next chain).status true
walk_says (found labels) next chain = certificate_says (upper_bridged chain next (sets_by next labels)) true
walk_says nowhere next chain = refl
walk_says cut next chain = tt

upper_says : (room : Bool) (w : Walk) (next : NamedProblem) (chain : Bound) → MaySay (if room then over_walk w next chain else limit_of MAX_STEPS (codes "steps")).status true
upper_says true w next chain = walk_says w next chain
upper_says false w next chain = tt

over_says : (bridge : Bridge) (next : NamedProblem) (chain : Bound) → MaySay (over_bridge bridge next chain).status true
over_says (over map) next chain = certificate_says (bridged chain next map) true
over_says missing next chain = refl
over_says cut_off next chain = tt

many_says : (many : Bool) (bridge : Bridge) (next : NamedProblem) (chain : Bound)
    → MaySay (if many then limit (limit_line (suc (length chain.steps)) Rows) else over_bridge bridge next chain).status true
many_says true bridge next chain = tt
many_says false bridge next chain = over_says bridge next chain

room_says : (room many : Bool) (bridge : Bridge) (next : NamedProblem) (chain : Bound)
    → MaySay (if room then if many then limit (limit_line (suc (length chain.steps)) Rows) else over_bridge bridge next chain else limit_of MAX_STEPS (codes "steps")).status true
room_says true many bridge next chain = many_says many bridge next chain
room_says false many bridge next chain = tt

kind_says : (kind : Kind) (next : NamedProblem) (chain : Bound) → MaySay (kind_outcome kind next chain).status true
kind_says Lower next chain = room_says (nat_lt (length chain.steps) MAX_STEPS) (has_many_rows (last_problem chain) next) (bridge_of (last_problem chain) next MAX_TRIES) next chain
kind_says Upper next chain = upper_says (nat_lt (length chain.steps) MAX_STEPS) (upper_walk (last_problem chain) next MAX_TRIES) next chain
kind_says Fixed next chain = room_says (nat_lt (length chain.steps) MAX_STEPS) (has_many_rows (last_problem chain) next) (bridge_of (last_problem chain) next MAX_TRIES) next chain

refusal_says : (refusal : Option Verdict) (outcome : Outcome) → MaySay outcome.status true → MaySay (or_refusal refusal outcome).status true
refusal_says (Some verdict) outcome says = check_says verdict
refusal_says None outcome says = says

sound_says : (next : NamedProblem) (chain : Bound) → MaySay (sound_outcome next chain).status true
sound_says next chain = refusal_says (steps_refusal chain) (kind_outcome chain.kind next chain) (kind_says chain.kind next chain)

text_says : (bytes : List ℕ) → MaySay (text_outcome bytes).status true
unfolding text_outcome
text_says bytes =
    or_fault_says (two_fault (codes "to") bytes) (sound_outcome (back_problem (codes "to") bytes) (chain_of (front_bound (codes "to") bytes))) true
    (sound_says (back_problem (codes "to") bytes) (chain_of (front_bound (codes "to") bytes)))

reduced_says : (reduced : Option NamedProblem) → MaySay (reduced_outcome reduced).status true
reduced_says (Some reduced) = problem_says reduced true
reduced_says None = tt

-- given an input problem
module _ (problem input : NamedProblem) where
  reason_says : (fault : ProductFault) → MaySay (product_refusal problem input fault).status true
  reason_says TooManyLabels = tt
  reason_says (Nameless pair) = refl
  reason_says TooManyConfigurations = tt
  reason_says NoMemory = tt

  product_says : (fault : Option ProductFault) → MaySay (reduced_product problem input fault).status true
  product_says (Some fault) = reason_says fault
  product_says None = reduced_says (reduced_of (named_product problem input) MAX_TRIES)

  input_says : (fault : Option InputFault) (outcome : Outcome) → MaySay outcome.status true → MaySay (or_input_fault input fault outcome).status true
  input_says (Some fault) outcome says = refl
  input_says None outcome says = says

  given_says : MaySay (reduced_given problem input).status true
  given_says = input_says (input_fault problem input) (reduced_product problem input (product_fault problem input)) (product_says (product_fault problem input))

reduce_says : (b : Bool) (bytes : List ℕ) → MaySay (outcome_by b bytes).status true
unfolding given_outcome plain_outcome
reduce_says true bytes = or_fault_says (given_fault bytes) (reduced_given (given_problem bytes) (given_input bytes)) true (given_says (given_problem bytes) (given_input bytes))
reduce_says false bytes =
    or_fault_says (first_fault 0 1 (lines_of bytes)) (reduced_outcome (reduced_of (problem_of (lines_of bytes)) MAX_TRIES)) true (reduced_says (reduced_of (problem_of (lines_of bytes)) MAX_TRIES))

pub word_says : (word : BridgeWord) (bytes : List ℕ) → MaySay (word_outcome word bytes).status true
unfolding reduce_outcome
word_says BridgeTo bytes = text_says bytes
word_says Reduce bytes = reduce_says (has_line (codes "given") bytes) bytes
