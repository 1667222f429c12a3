-- What the answers of `fit` and `given` mean for algorithms.
use Rattle.std.proofs.Common.{◌≡◌, ℕ, ◌≤◌, Bool, true, false, List, length, refl, sym, ap, ◌∙◌, subst, arith, codes, Option, None, Some}
use Rattle.std.specs.Prelude.{◌++◌, if◌then◌else◌, option_map, slice_index_or}
use Rattle.std.specs.Fmt.{decimal}
use Rattle.re_problem.specs.NamedProblems.{IsNamedProblem, NamedProblem, unnamed}
use Rattle.re_problem.specs.declared.fault.InputFault.{InputFault as Fault}
use Rattle.re_problem.specs.declared.fault.InputFault.TheVariants as text_fault
use Rattle.re_cert.specs.Bounds.{Bound, is_fixed, is_lower, last_problem, problem_at}
use Rattle.re_cert.specs.declared.certificate.Kind.{Kind}
use Rattle.re_cert.specs.declared.certificate.Kind.TheVariants.{Fixed, Lower, Upper}
use Rattle.re_chains.proofs.WordsGiven.{fault_not_done, none_fails}
use Rattle.re_chains.specs.OverChains.{or_fault, or_refusal, refusal_of, steps_refusal}
use Rattle.re_check.specs.Verdicts.{meets_back, steps_fault}
use Rattle.re_check.specs.declared.verdict.ClauseFault.{ClauseFault}
use Rattle.re_check.specs.declared.verdict.Verdict.{Verdict}
use Rattle.re_check.specs.declared.verdict.Verdict.TheVariants.{Accepted, Refused}
use Rattle.re_settings.proofs.Judged.{judged-none}
use Rattle.re_settings.proofs.Told.{fit_walk_law}
use Rattle.re_settings.specs.InputProblems.{input_fault}
use Rattle.re_settings.specs.Fits.{sets_for}
use Rattle.re_settings.specs.Laws.{IsFitting, TellsGiven}
use Rattle.re_settings.specs.declared.inputs.InputFault.{InputFault}
use Rattle.re_settings.specs.declared.inputs.InputFault.TheVariants.{Degrees, Empty, OneSide}
use Rattle.re_frame.specs.Check.{clause_name, is_final, verdict_outcome}
use Rattle.re_frame.specs.Outcomes.{Outcome, done, refused}
use Rattle.re_frame.specs.TextFaults.{fault_outcome, fault_status}
use Rattle.re_frame.specs.declared.status.Status.TheVariants.{Done, Limit, No}
use Rattle.re_given.proofs.ChainGiven.{SolvableGiven-none}
use Rattle.re_given.proofs.SlowGiven.{SolvableGiven-zero}
use Rattle.re_given.specs.Given.{SolvableGiven, ZeroGiven}
use Rattle.re_given.specs.Inputs.{IsInput}
use Rattle.re_bounds.proofs.BoundChains.{behind-last}
use Rattle.re_bounds.specs.GivenBounds.{EndsGiven, IsOver, MeansGiven}
use Rattle.re_chains.specs.TwoTexts.{back_problem, front_bound, two_fault}
use Rattle.re_walks.specs.Walking.{Walk, cut, found, nowhere}
use Rattle.re_settings.proofs.EndNumbers.{end-high, end-low, kept}
use Rattle.re_settings.proofs.Held.{back_before, fixed_holds, input_there, last_zero, lower_holds, named_at, upper_holds}
use Rattle.re_settings.specs.InputFaults.{fault_line, or_input_fault}
use Rattle.re_settings.specs.Meanings.{AnswerLaw, AnswerMeans, FitMeans, IsJudged, VerdictMeans}
use Rattle.re_settings.specs.Verdicts.{bound_outcome, end_number, end_outcome, fit_with, fixed_with, given_outcome, kept_steps, lower_with, or_back, sound_outcome, upper_with}
use Rattle.re_settings.specs.Walks.{fit_text, input_at, walk_at}
use Rattle.re_settings.specs.declared.bound_words.BoundWord.{BoundWord}
use Rattle.re_settings.specs.declared.bound_words.BoundWord.TheVariants.{Fit, Given}
use Rattle.re_settings.specs.declared.fitting.TheConstants.{MAX_TRIES}

-- ---- statuses
no_isnt : No ≡ Done → ⊥
no_isnt e = cc

limit_isnt : Limit ≡ Done → ⊥
limit_isnt e = cc

limit_isnt_no : Limit ≡ No → ⊥
limit_isnt_no e = cc

done_isnt_no : Done ≡ No → ⊥
done_isnt_no e = cc

-- ---- what comes before
-- the line of the fault of an input problem isn't `no`
apart : (a b : ℕ) → a ≡ b → a ≡ 58 → b ≡ 10 → ⊥
apart a b e f g = omega (arith, e, f, g)

fault_line_isnt : (input : NamedProblem) (fault : InputFault) → refused (fault_line input fault) ≡ refused (codes "no\n") → ⊥
fault_line_isnt input Degrees e = apart _ _ (ap (λ (o : Outcome). slice_index_or o.text 2 0) e) refl refl
fault_line_isnt input Empty e = apart _ _ (ap (λ (o : Outcome). slice_index_or o.text 2 0) e) refl refl
fault_line_isnt input (OneSide label) e = apart _ _ (ap (λ (o : Outcome). slice_index_or o.text 2 0) e) refl refl

-- nor is that of `check`
begins_otherwise : (a b : ℕ) → a ≡ b → a ≡ 114 → b ≡ 110 → ⊥
begins_otherwise a b e f g = omega (arith, e, f, g)

pub verdict_isnt : (verdict : Verdict) → verdict_outcome verdict ≡ refused (codes "no\n") → ⊥
verdict_isnt (Accepted kind steps) e = done_isnt_no (ap (λ (o : Outcome). o.status) e)
verdict_isnt (Refused step clause) e = begins_otherwise _ _ (ap (λ (o : Outcome). slice_index_or o.text 0 0) e) (go (is_final clause)) refl
  where
    go : (b : Bool) → slice_index_or (if b then codes "refused: clause " ++ clause_name clause ++ codes "\n" else codes "refused: step " ++ decimal step ++ codes ", clause " ++ clause_name clause ++ codes "\n") 0 0 ≡ 114
    go true = refl
    go false = refl

refused_isnt_done : (input : NamedProblem) (fault : Option InputFault) (refusal : Option Verdict) (outcome : Outcome) → ((verdict : Verdict) → refusal ≡ Some verdict → (verdict_outcome verdict).status ≡ Done → ⊥)
    → (or_input_fault input fault (or_refusal refusal outcome)).status ≡ Done → (fault ≡ None) × (refusal ≡ None) × (outcome.status ≡ Done)
refused_isnt_done input (Some fault) refusal outcome other says = absurd (no_isnt says)
refused_isnt_done input None (Some verdict) outcome other says = absurd (other verdict refl says)
refused_isnt_done input None None outcome other says = (refl, refl, says)

refused_isnt_no : (input : NamedProblem) (fault : Option InputFault) (refusal : Option Verdict) (outcome : Outcome) → or_input_fault input fault (or_refusal refusal outcome) ≡ refused (codes "no\n")
    → (fault ≡ None) × (refusal ≡ None) × (outcome ≡ refused (codes "no\n"))
refused_isnt_no input (Some fault) refusal outcome says = absurd (fault_line_isnt input fault says)
refused_isnt_no input None (Some verdict) outcome says = absurd (verdict_isnt verdict says)
refused_isnt_no input None None outcome says = (refl, refl, says)

-- steps are refused, and not accepted
pub steps_are_refused : (bound : Bound) (verdict : Verdict) → steps_refusal bound ≡ Some verdict → (verdict_outcome verdict).status ≡ Done → ⊥
steps_are_refused bound verdict e says = go (steps_fault bound.first 1 bound.steps) e
  where
    go : (o : Option ClauseFault) → option_map refusal_of o ≡ Some verdict → ⊥
    go None wrong = absurd (cc)
    go (Some fault) right = let same : refusal_of fault ≡ verdict = cc in no_isnt (ap (λ v. (verdict_outcome v).status) same ∙ says)

-- ---- a bound each step of which meets its clauses
module _ (input : NamedProblem) (bound : Bound) (over : IsOver bound) (is : IsInput (unnamed bound.first) (unnamed input)) (steps : steps_fault bound.first 1 bound.steps ≡ None) where
  abbrev ZeroThere : ℕ → Type 0
  ZeroThere number = ZeroGiven (unnamed (problem_at bound number)) (input_at input number)

  tells : (number : ℕ) → number ≤ length bound.steps → TellsGiven (unnamed (problem_at bound number)) (input_at input number) (walk_at input bound number)
  tells number few = fit_walk_law (unnamed (problem_at bound number)) (input_at input number) MAX_TRIES (named_at bound number over).problem (input_there bound input number over few steps is)

  pub none_there : (number : ℕ) → number ≤ length bound.steps → walk_at input bound number ≡ nowhere → ZeroThere number → ⊥
  none_there number few e = subst (TellsGiven (unnamed (problem_at bound number)) (input_at input number)) e (tells number few)

  some_there : (number : ℕ) → number ≤ length bound.steps → (labels : List ℕ) → walk_at input bound number ≡ found labels → ZeroThere number
  some_there number few labels e = (_, (subst (TellsGiven (unnamed (problem_at bound number)) (input_at input number)) e (tells number few)).upper)

  all_steps : length bound.steps ≤ length bound.steps
  all_steps = omega arith

  -- `fit`
  fit_yes : (w : Walk) → walk_at input bound (length bound.steps) ≡ w → (fit_with input bound w).status ≡ Done → SolvableGiven (unnamed (problem_at bound (length bound.steps))) (input_at input (length bound.steps)) 0
  fit_yes (found labels) e says =
      SolvableGiven-zero (unnamed (problem_at bound (length bound.steps))) (input_at input (length bound.steps)) (input_there bound input (length bound.steps) over all_steps steps is) (some_there (length bound.steps) all_steps labels e)
  fit_yes nowhere e says = absurd (no_isnt says)
  fit_yes cut e says = absurd (limit_isnt says)

  fit_no : (w : Walk) → walk_at input bound (length bound.steps) ≡ w → fit_with input bound w ≡ refused (codes "no\n") → SolvableGiven (unnamed (problem_at bound (length bound.steps))) (input_at input (length bound.steps)) 0 → ⊥
  fit_no (found labels) e says solvable = done_isnt_no (ap (λ (o : Outcome). o.status) says)
  fit_no nowhere e says solvable =
      none_there (length bound.steps) all_steps e
      ((SolvableGiven-none (unnamed (problem_at bound (length bound.steps))) (input_at input (length bound.steps)) (named_at bound (length bound.steps) over).problem (input_there bound input (length bound.steps) over all_steps steps is)).0 solvable)
  fit_no cut e says solvable = limit_isnt_no (ap (λ (o : Outcome). o.status) says)

  fit_shown : (w : Walk) → walk_at input bound (length bound.steps) ≡ w → (fit_with input bound w).status ≡ Done → (problem : NamedProblem) → problem_at bound (length bound.steps) ≡ problem
      → (sets : List (List ℕ)) × IsFitting (unnamed problem) (input_at input (length bound.steps)) sets × (fit_with input bound w ≡ done (fit_text problem input sets))
  fit_shown (found labels) e says problem same =
      let fits = subst (TellsGiven (unnamed (problem_at bound (length bound.steps))) (input_at input (length bound.steps))) e (tells (length bound.steps) all_steps) in
      let sets : List (List ℕ) = sets_for (input_at input (length bound.steps)) labels in
      (sets, subst (λ (p : NamedProblem). IsFitting (unnamed p) (input_at input (length bound.steps)) sets) same fits, ap (λ (p : NamedProblem). done (fit_text p input sets)) same)
  fit_shown nowhere e says problem same = absurd (no_isnt says)
  fit_shown cut e says problem same = absurd (limit_isnt says)

  -- `given`
  abbrev Holds : Kind → Type 0
  Holds kind = MeansGiven kind (length bound.steps) (unnamed bound.first) (unnamed input)

  lower_done : bound.kind ≡ Lower → (w : Walk) → walk_at input bound (length bound.steps) ≡ w → (lower_with input bound w).status ≡ Done → Holds Lower
  lower_done e (found labels) came says = absurd (no_isnt says)
  lower_done e nowhere came says = lower_holds bound input over is steps (ap is_lower e) (length bound.steps) all_steps (none_there (length bound.steps) all_steps came)
  lower_done e cut came says = absurd (limit_isnt says)

  upper_done : bound.kind ≡ Upper → (w : Walk) → walk_at input bound (length bound.steps) ≡ w → (upper_with bound w).status ≡ Done → Holds Upper
  upper_done e (found labels) came says = upper_holds bound input over is steps (ap is_lower e) (some_there (length bound.steps) all_steps labels came)
  upper_done e nowhere came says = absurd (no_isnt says)
  upper_done e cut came says = absurd (limit_isnt says)

  goes_back_if_done : (b : Bool) → (or_back b bound).status ≡ Done → b ≡ true
  goes_back_if_done true says = refl
  goes_back_if_done false says = absurd (no_isnt says)

  fixed_done : bound.kind ≡ Fixed → (number : ℕ) → bound.back ≤ number → number ≤ length bound.steps → (w : Walk) → walk_at input bound number ≡ w → (fixed_with input bound number w).status ≡ Done → Holds Fixed
  fixed_done e number low high (found labels) came says = absurd (no_isnt says)
  fixed_done e number low high nowhere came says = fixed_holds bound input over is steps e (goes_back_if_done (meets_back bound) says) number low high (none_there number high came)
  fixed_done e number low high cut came says = absurd (limit_isnt says)

  end_done : (kind : Kind) → bound.kind ≡ kind → (end_outcome kind input bound).status ≡ Done → Holds kind
  end_done Lower e says = lower_done e (walk_at input bound (length bound.steps)) refl says
  end_done Upper e says = upper_done e (walk_at input bound (length bound.steps)) refl says
  end_done Fixed e says =
      let before = back_before bound over.fits e in
      let number : ℕ = end_number input bound (length bound.steps) in
      fixed_done e number (end-low input bound (length bound.steps) (omega (arith, before))) (end-high input bound (length bound.steps)) (walk_at input bound number) refl says

  -- a refusal
  abbrev Ends : Kind → Type 0
  Ends kind = EndsGiven kind (unnamed (last_problem bound)) (input_at input (length bound.steps))

  zero_last : ZeroThere (length bound.steps) → ZeroGiven (unnamed (last_problem bound)) (input_at input (length bound.steps))
  zero_last there = subst (λ (p : NamedProblem). ZeroGiven (unnamed p) (input_at input (length bound.steps))) (behind-last bound.first bound.steps) there

  last_there : ZeroGiven (unnamed (last_problem bound)) (input_at input (length bound.steps)) → ZeroThere (length bound.steps)
  last_there there = subst (λ (p : NamedProblem). ZeroGiven (unnamed p) (input_at input (length bound.steps))) (sym (behind-last bound.first bound.steps)) there

  lower_fails : (w : Walk) → walk_at input bound (length bound.steps) ≡ w → (lower_with input bound w).status ≡ No → Ends Lower → ⊥
  lower_fails (found labels) came says ends = ends (zero_last (some_there (length bound.steps) all_steps labels came))
  lower_fails nowhere came says ends = done_isnt_no says
  lower_fails cut came says ends = limit_isnt_no says

  upper_fails : (w : Walk) → walk_at input bound (length bound.steps) ≡ w → (upper_with bound w).status ≡ No → Ends Upper → ⊥
  upper_fails (found labels) came says ends = done_isnt_no says
  upper_fails nowhere came says ends = none_there (length bound.steps) all_steps came (last_there ends)
  upper_fails cut came says ends = limit_isnt_no says

  back_fails : (b : Bool) → (or_back b bound).status ≡ No → b ≡ true → ⊥
  back_fails true says e = done_isnt_no says
  back_fails false says e = cc

  fixed_fails : bound.kind ≡ Fixed → (number : ℕ) → bound.back ≤ number → number ≤ length bound.steps → (w : Walk) → walk_at input bound number ≡ w → (fixed_with input bound number w).status ≡ No → Ends Fixed → meets_back bound ≡ true → ⊥
  fixed_fails e number low high (found labels) came says ends back = last_zero bound input over is steps e number low high (some_there number high labels came) ends
  fixed_fails e number low high nowhere came says ends back = back_fails (meets_back bound) says back
  fixed_fails e number low high cut came says ends back = limit_isnt_no says

  end_fails : (kind : Kind) → bound.kind ≡ kind → (end_outcome kind input bound).status ≡ No → Ends kind → (is_fixed kind ≡ true → meets_back bound ≡ true) → ⊥
  end_fails Lower e says ends back = lower_fails (walk_at input bound (length bound.steps)) refl says ends
  end_fails Upper e says ends back = upper_fails (walk_at input bound (length bound.steps)) refl says ends
  end_fails Fixed e says ends back =
      let before = back_before bound over.fits e in
      let number : ℕ = end_number input bound (length bound.steps) in
      fixed_fails e number (end-low input bound (length bound.steps) (omega (arith, before))) (end-high input bound (length bound.steps)) (walk_at input bound number) refl says ends (back refl)

  kept_holds : bound.kind ≡ Lower → (number : ℕ) → kept_steps input bound (length bound.steps) ≡ Some number → MeansGiven Lower number (unnamed bound.first) (unnamed input)
  kept_holds e number is_kept =
      let here = kept input bound (length bound.steps) number is_kept in
      let few : number ≤ length bound.steps = (let l = here.fewer in omega arith) in
      lower_holds bound input over is steps (ap is_lower e) number few (none_there number few here.shown)

-- ---- both words
module _ (input : NamedProblem) (bound : Bound) (input_is : IsNamedProblem input) (over : IsOver bound) where
  is_input : input_fault bound.first input ≡ None → IsInput (unnamed bound.first) (unnamed input)
  is_input none = judged-none bound.first input input_is none

  meets : steps_refusal bound ≡ None → steps_fault bound.first 1 bound.steps ≡ None
  meets none = none_fails (steps_fault bound.first 1 bound.steps) none

  before_done : (word : BoundWord) → (given_outcome word input bound).status ≡ Done → (input_fault bound.first input ≡ None) × (steps_refusal bound ≡ None) × ((sound_outcome word input bound).status ≡ Done)
  before_done word says = refused_isnt_done input (input_fault bound.first input) (steps_refusal bound) (sound_outcome word input bound) (steps_are_refused bound) says

  at_last : (problem : NamedProblem) → problem_at bound (length bound.steps) ≡ problem → SolvableGiven (unnamed (problem_at bound (length bound.steps))) (input_at input (length bound.steps)) 0
      → SolvableGiven (unnamed problem) (input_at input (length bound.steps)) 0
  at_last problem e solvable = subst (λ (p : NamedProblem). SolvableGiven (unnamed p) (input_at input (length bound.steps)) 0) e solvable

  -- where nothing comes before, the answer is that to a bound each step of which meets its clauses
  alone : (word : BoundWord) → input_fault bound.first input ≡ None → steps_refusal bound ≡ None → given_outcome word input bound ≡ sound_outcome word input bound
  alone word none met =
      ap (λ f. or_input_fault input f (or_refusal (steps_refusal bound) (sound_outcome word input bound))) none ∙ ap (λ r. or_refusal r (sound_outcome word input bound)) met

  fit_means : FitMeans input bound (given_outcome Fit input bound)
  fit_means = record {
    shown = λ says.
        let (none, met, done_so) = before_done Fit says in
        let (sets, fits, lines) = fit_shown input bound over (is_input none) (meets met) (walk_at input bound (length bound.steps)) refl done_so (last_problem bound) (behind-last bound.first bound.steps) in
        record { sets = sets; fits = fits; lines = alone Fit none met ∙ lines };
    yes = λ says.
        let (none, met, done) = before_done Fit says in
        at_last (last_problem bound) (behind-last bound.first bound.steps) (fit_yes input bound over (is_input none) (meets met) (walk_at input bound (length bound.steps)) refl done);
    no = λ says solvable.
        let (none, met, answered) = refused_isnt_no input (input_fault bound.first input) (steps_refusal bound) (sound_outcome Fit input bound) says in
        fit_no input bound over (is_input none) (meets met) (walk_at input bound (length bound.steps)) refl answered
        (subst (λ (p : NamedProblem). SolvableGiven (unnamed p) (input_at input (length bound.steps)) 0) (sym (behind-last bound.first bound.steps)) solvable);
  }

  verdict_means : VerdictMeans input bound (given_outcome Given input bound)
  verdict_means = record {
    holds = λ says.
        let (none, met, done) = before_done Given says in
        end_done input bound over (is_input none) (meets met) bound.kind refl done;
    fails = λ says none valid.
        let met : steps_refusal bound ≡ None = ap (option_map refusal_of) valid.steps in
        let alone_says : (end_outcome bound.kind input bound).status ≡ No = sym (ap (λ (o : Outcome). o.status) (alone Given none met)) ∙ says in
        end_fails input bound over (is_input none) valid.steps bound.kind refl alone_says valid.ends valid.back;
    kept = λ says e none met number is_kept. kept_holds input bound over (is_input none) (meets met) e number is_kept;
  }

  pub answer_means : (word : BoundWord) → AnswerMeans word input bound (given_outcome word input bound)
  answer_means Fit = fit_means
  answer_means Given = verdict_means

pub answer_law : AnswerLaw
answer_law word input bound input_is over = answer_means input bound input_is over word

-- ---- texts
-- the line of a fault is neither Done nor `no`
fault_isnt_no : (fault : Fault) → fault_status fault ≡ No → ⊥
fault_isnt_no (text_fault.BadByte at) e = cc
fault_isnt_no (text_fault.BadItem line) e = cc
fault_isnt_no (text_fault.WrongDegree line) e = cc
fault_isnt_no (text_fault.MissingBlock line) e = cc
fault_isnt_no (text_fault.ExtraBlock line) e = cc
fault_isnt_no (text_fault.DegreeOutOfRange degree) e = cc
fault_isnt_no (text_fault.TooManyLabels line) e = cc
fault_isnt_no (text_fault.TooManyConfigurations line) e = cc
fault_isnt_no (text_fault.BadSection line) e = cc
fault_isnt_no (text_fault.BadEntry line) e = cc
fault_isnt_no (text_fault.BadBack line) e = cc
fault_isnt_no (text_fault.TooManySteps line) e = cc
fault_isnt_no (text_fault.TooManyRows line) e = cc
fault_isnt_no (text_fault.TooManyViews line) e = cc
fault_isnt_no (text_fault.TooManyNodes line) e = cc
fault_isnt_no text_fault.EarlyEnd e = cc

fault_isnt_no_line : (fault : Fault) (outcome : Outcome) → outcome ≡ fault_outcome fault → outcome ≡ refused (codes "no\n") → ⊥
fault_isnt_no_line fault outcome e says = fault_isnt_no fault (sym (ap (λ (o : Outcome). o.status) e) ∙ ap (λ (o : Outcome). o.status) says)

fault_means : (word : BoundWord) (input : NamedProblem) (bound : Bound) (fault : Fault) (outcome : Outcome) → outcome ≡ fault_outcome fault → AnswerMeans word input bound outcome
fault_means Fit input bound fault outcome e = record {
  shown = λ says. absurd (fault_not_done fault (sym (ap (λ (o : Outcome). o.status) e) ∙ says));
  yes = λ says. absurd (fault_not_done fault (sym (ap (λ (o : Outcome). o.status) e) ∙ says));
  no = λ says. absurd (fault_isnt_no_line fault outcome e says);
}
fault_means Given input bound fault outcome e = record {
  holds = λ says. absurd (fault_not_done fault (sym (ap (λ (o : Outcome). o.status) e) ∙ says));
  fails = λ says. absurd (fault_isnt_no fault (sym (ap (λ (o : Outcome). o.status) e) ∙ says));
  kept = λ says. absurd (fault_isnt_no fault (sym (ap (λ (o : Outcome). o.status) e) ∙ says));
}

pub judged_fault : (word : BoundWord) (bytes : List ℕ) (fault : Fault) (outcome : Outcome) → two_fault (codes "given") bytes ≡ Some fault → outcome ≡ fault_outcome fault → IsJudged word bytes outcome
unfolding bound_outcome
judged_fault word bytes fault outcome wrong e = record {
  answer = e ∙ ap (λ f. or_fault f (given_outcome word (back_problem (codes "given") bytes) (front_bound (codes "given") bytes))) (sym wrong);
  means = fault_means word (back_problem (codes "given") bytes) (front_bound (codes "given") bytes) fault outcome e;
}

pub judged_texts : (word : BoundWord) (bytes : List ℕ) (input : NamedProblem) (bound : Bound) (outcome : Outcome) → two_fault (codes "given") bytes ≡ None → bound ≡ front_bound (codes "given") bytes → input ≡ back_problem (codes "given") bytes
    → outcome ≡ given_outcome word input bound → AnswerMeans word input bound outcome → IsJudged word bytes outcome
unfolding bound_outcome
judged_texts word bytes input bound outcome none front back e means = record {
  answer = e ∙ ap (λ i. given_outcome word i bound) back ∙ ap (given_outcome word (back_problem (codes "given") bytes)) front
      ∙ ap (λ f. or_fault f (given_outcome word (back_problem (codes "given") bytes) (front_bound (codes "given") bytes))) (sym none);
  means = subst (λ b. AnswerMeans word (back_problem (codes "given") bytes) b outcome) front (subst (λ (i : NamedProblem). AnswerMeans word i bound outcome) back means);
}
