-- A chain of kind lower that `given` accepts, and the fixed point of a closure that it accepts.
use Rattle.std.proofs.Common.{◌≡◌, ℕ, true, length, refl, sym, ap, ◌∙◌, subst, codes, Option, None, Some}
use Rattle.std.specs.Prelude.{◌&&◌, IfSome, nat_le, option_map}
use Rattle.re_labels.proofs.Tests.{and-true}
use Rattle.re_labels.specs.declared.TheConstants.{MAX_LABELS}
use Rattle.re_problem.proofs.ZeroPlaces.{some-place}
use Rattle.re_problem.specs.NamedProblems.{IsNamedProblem, NamedProblem, unnamed}
use Rattle.re_problem.specs.Zero.{zero_place}
use Rattle.re_cert.specs.Bounds.{Bound, is_bound, is_lower, last_problem, next_problems, one_form, renaming_fits, steps_fit}
use Rattle.re_cert.specs.declared.certificate.Kind.{Kind}
use Rattle.re_cert.specs.declared.certificate.Kind.TheVariants.{Fixed}
use Rattle.re_cert.specs.declared.certificate.TheConstants.{MAX_STEPS}
use Rattle.re_chains.specs.Chains.{IsOverProblems, IsSoundLower}
use Rattle.re_chains.specs.OverChains.{or_refusal, refusal_of, steps_refusal}
use Rattle.re_check.proofs.Meaning.{lower_chain, named-last}
use Rattle.re_settings.proofs.Judged.{judged-none}
use Rattle.re_settings.specs.InputProblems.{input_fault}
use Rattle.re_settings.specs.declared.inputs.InputFault.{InputFault}
use Rattle.re_frame.specs.Outcomes.{Outcome, refused}
use Rattle.re_frame.specs.declared.output.Output.{Output}
use Rattle.re_frame.specs.declared.status.Status.TheVariants.{Done}
use Rattle.re_given.proofs.ChainGiven.{IsInput-lower}
use Rattle.re_given.proofs.Ungiven.{SolvableGiven-ungiven}
use Rattle.re_given.specs.Inputs.{IsInput}
use Rattle.re_given_words.specs.Extensions.{GoesOnGiven, TakenLaw}
use Rattle.re_settings.specs.Taken.{IsTaken, Refuses}
use Rattle.re_settings.specs.InputFaults.{or_input_fault}
use Rattle.re_settings.specs.Meanings.{AnswerLaw}
use Rattle.re_settings.specs.Settings.{IsTakenIn, MeansIn, TakenAloneLaw, input_of}
use Rattle.re_settings.specs.declared.setting.Setting.{Setting}
use Rattle.re_settings.specs.declared.setting.Setting.TheVariants as settings
use Rattle.re_settings.specs.Verdicts.{end_outcome, fit_with, given_outcome, lower_with}
use Rattle.re_settings.specs.Walks.{input_at, walk_at}
use Rattle.re_settings.specs.declared.bound_words.BoundWord.TheVariants.{Fit}
use Rattle.re_laws.proofs.ZeroRounds.{Solvable-zero}
use Rattle.re_laws.specs.Algorithms.{Solvable}
use Rattle.re_laws.specs.Chains.{IsLowerChain}
use Rattle.re_walks.specs.Walking.{Walk, cut, found, nowhere}
use Rattle.re_closure.specs.ClosureWords.{IsJudgedFixed}
use Rattle.re_closure.specs.Closures.{IsClosed}

-- ---- a chain
module _ (input : NamedProblem) (chain : Bound) where
  -- what is Done has no fault
  no_fault : (fault : Option InputFault) (outcome : Outcome) → (or_input_fault input fault outcome).status ≡ Done → (fault ≡ None) × (outcome.status ≡ Done)
  no_fault None outcome says = (refl, says)
  no_fault (Some fault) outcome says = absurd (cc)

  -- and no sets for its last problem
  no_sets : (w : Walk) → (lower_with input chain w).status ≡ Done → fit_with input chain w ≡ refused (codes "no\n")
  no_sets nowhere says = refl
  no_sets (found labels) says = absurd (cc)
  no_sets cut says = absurd (cc)

  -- so its last problem isn't solvable without communication
  pub taken_not_zero : AnswerLaw → IsNamedProblem input → is_bound chain ≡ true → IsOverProblems chain → IsSoundLower chain → IsTaken input chain → (place : ℕ) → zero_place (unnamed (last_problem chain)) ≡ Some place → ⊥
  taken_not_zero law names fits problems sound taken place there =
      let last : NamedProblem = last_problem chain in
      let w : Walk = walk_at input chain (length chain.steps) in
      let two = no_fault (input_fault chain.first input) (or_refusal (steps_refusal chain) (end_outcome chain.kind input chain)) (ap (λ (o : Outcome). o.status) taken) in
      let ended : (end_outcome chain.kind input chain).status ≡ Done
      = subst (λ f. (or_refusal (option_map refusal_of f) (end_outcome chain.kind input chain)).status ≡ Done) sound.sound two.1 in
      let none : fit_with input chain w ≡ refused (codes "no\n") = no_sets w (subst (λ (k : Kind). (end_outcome k input chain).status ≡ Done) sound.lower ended) in
      let told : given_outcome Fit input chain ≡ refused (codes "no\n")
      = ap (λ f. or_input_fault input f (or_refusal (steps_refusal chain) (fit_with input chain w))) two.0 ∙ ap (λ f. or_refusal (option_map refusal_of f) (fit_with input chain w)) sound.sound ∙ none in
      let parts = and-true (nat_le (length chain.steps) MAX_STEPS && steps_fit chain.kind chain.first chain.steps && one_form chain.steps) (renaming_fits chain) fits in
      let few = and-true (nat_le (length chain.steps) MAX_STEPS && steps_fit chain.kind chain.first chain.steps) (one_form chain.steps) parts.0 in
      let fit : steps_fit chain.kind chain.first chain.steps ≡ true = (and-true (nat_le (length chain.steps) MAX_STEPS) (steps_fit chain.kind chain.first chain.steps) few.0).1 in
      let steps : IsLowerChain (unnamed chain.first) (length chain.steps) (unnamed last) = lower_chain chain.kind chain.first 1 chain.steps (ap is_lower sound.lower) fit problems.next sound.sound in
      let is : IsInput (unnamed last) (input_at input (length chain.steps)) = IsInput-lower steps (judged-none chain.first input names two.0) in
      let last_is = (named-last chain.first (next_problems chain.steps) problems.first problems.next).problem in
      let solvable : Solvable (unnamed last) 0 = (Solvable-zero (unnamed last) last_is).1 ((some-place (unnamed last) (Some place) (sym there)).0 refl) in
      (law Fit input chain names (record { fits = fits; first = problems.first; next = problems.next })).no told (SolvableGiven-ungiven (unnamed last) (input_at input (length chain.steps)) 0 is solvable)

-- the same in a setting
pub taken_open : (setting : Setting) (chain : Bound) → AnswerLaw → TakenAloneLaw → IfSome (input_of setting) IsNamedProblem → is_bound chain ≡ true → IsOverProblems chain → IsSoundLower chain → IsTakenIn setting chain → (place : ℕ)
    → zero_place (unnamed (last_problem chain)) ≡ Some place → ⊥
taken_open settings.Alone chain law alone names fits problems sound taken place there = let wrong : Some place ≡ None = sym there ∙ ((alone chain).lower sound).0 taken in cc
taken_open (settings.Given input) chain law alone names fits problems sound taken place there = taken_not_zero input chain law names fits problems sound taken place there

-- ---- a fixed point
pub closed_goes_on : (input : NamedProblem) (chain bound : Bound) → TakenLaw → IsNamedProblem input → IsClosed chain bound → IsTaken input bound → GoesOnGiven input Fixed 3 MAX_LABELS chain bound
closed_goes_on input chain bound law names closed taken = record {
  fits = closed.goes_on.fits;
  problems = closed.goes_on.problems;
  of_kind = closed.goes_on.of_kind;
  first = closed.goes_on.first;
  more = closed.goes_on.more;
  steps = closed.goes_on.steps;
  few = closed.goes_on.few;
  small = closed.goes_on.small;
  accepted = taken;
  means = subst (λ (k : Kind). MeansIn (settings.Given input) k (length bound.steps) (unnamed chain.first)) closed.goes_on.of_kind
      (subst (λ (p : NamedProblem). MeansIn (settings.Given input) bound.kind (length bound.steps) (unnamed p)) closed.goes_on.first
      (law input bound 0 0 names closed.goes_on.fits closed.goes_on.problems taken).means);
}

-- or what `given` answers to it
pub judged_fixed : (input : NamedProblem) (chain bound : Bound) → TakenLaw → IsNamedProblem input → IsClosed chain bound → (found : Option Output) → Refuses input bound found → IsJudgedFixed (settings.Given input) chain bound found
judged_fixed input chain bound law names closed None taken = closed_goes_on input chain bound law names closed taken
judged_fixed input chain bound law names closed (Some output) declines = declines
