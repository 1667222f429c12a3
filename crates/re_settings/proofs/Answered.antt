-- What the walks come to, and the outcomes.
use Rattle.std.proofs.Common.{◌≡◌, ℕ, zero, suc, ◌<◌, false, List, length, refl, sym, ap, ◌∙◌, subst, Result, Ok, Err}
use Rattle.std.specs.List.{AllByRecursion}
use Rattle.std.specs.Prelude.{◌++◌, IfOk}
use Rattle.re_cert.specs.Bounds.{Bound, problem_at}
use Rattle.re_settings.specs.Fits.{sets_for}
use Rattle.re_frame.specs.Outcomes.{done, refused}
use Rattle.re_given.specs.Inputs.{exchanged_by}
use Rattle.re_problem.specs.NamedProblems.{NamedProblem, unnamed}
use Rattle.re_problem.specs.Problems.{Problem}
use Rattle.re_settings.specs.Verdicts.{end_line, fit_with, fixed_at, fixed_with, is_cut, is_nowhere, kept_line, kept_steps, lower_with}
use Rattle.re_settings.specs.Walks.{AreFirst, fit_text, input_at, walk_at}

-- ---- the finder's answer

-- exchanged problems have the same labels
exchanged-labels : (k : ℕ) (input : Problem) → (exchanged_by k input).labels ≡ input.labels
exchanged-labels zero input = refl
exchanged-labels (suc k) input = exchanged-labels k input

pub set_count : (problem : Problem) (input : NamedProblem) (number : ℕ) (sets given : List (List ℕ)) → AreFirst problem (input_at input number) sets → given ≡ sets → length given ≡ length input.names
set_count problem input number sets given are same = ap length same ∙ are.count ∙ exchanged-labels number (unnamed input)

pub sets_below : (problem last : NamedProblem) (input : Problem) (sets given : List (List ℕ)) → AreFirst (unnamed problem) input sets → given ≡ sets → last ≡ problem → AllByRecursion (AllByRecursion (λ label. label < length last.names)) given
sets_below problem last input sets given are same e =
    subst (λ (p : NamedProblem). AllByRecursion (AllByRecursion (λ label. label < length p.names)) given) (sym e) (subst (AllByRecursion (AllByRecursion (λ label. label < length problem.names))) (sym same) are.below)

-- ---- outcomes
module _ (input : NamedProblem) (bound : Bound) where
  shown : (number : ℕ) (sets : List (List ℕ)) (labels : List ℕ) → sets ≡ sets_for (input_at input number) labels
      → fit_text (problem_at bound number) input sets ≡ fit_text (problem_at bound number) input (sets_for (input_at input number) labels)
  shown number sets labels are = ap (fit_text (problem_at bound number) input) are

  pub fit_found : (sets : List (List ℕ)) → AreFirst (unnamed (problem_at bound (length bound.steps))) (input_at input (length bound.steps)) sets
      → done (fit_text (problem_at bound (length bound.steps)) input sets) ≡ fit_with input bound (walk_at input bound (length bound.steps))
  fit_found sets are = ap done (shown (length bound.steps) sets are.labels are.sets_are) ∙ ap (fit_with input bound) (sym are.came)

  pub lower_found : (sets : List (List ℕ)) → AreFirst (unnamed (problem_at bound (length bound.steps))) (input_at input (length bound.steps)) sets
      → refused (end_line (length bound.steps) ++ fit_text (problem_at bound (length bound.steps)) input sets ++ kept_line (kept_steps input bound (length bound.steps))) ≡ lower_with input bound (walk_at input bound (length bound.steps))
  lower_found sets are =
      ap (λ t. refused (end_line (length bound.steps) ++ t ++ kept_line (kept_steps input bound (length bound.steps)))) (shown (length bound.steps) sets are.labels are.sets_are) ∙ ap (lower_with input bound) (sym are.came)

  pub fixed_found : (number : ℕ) (sets : List (List ℕ)) → AreFirst (unnamed (problem_at bound number)) (input_at input number) sets
      → refused (end_line number ++ fit_text (problem_at bound number) input sets) ≡ fixed_at input bound number
  fixed_found number sets are = ap (λ t. refused (end_line number ++ t)) (shown number sets are.labels are.sets_are) ∙ ap (fixed_with input bound number) (sym are.came)

  pub found_isnt_cut : (number : ℕ) (sets : List (List ℕ)) → AreFirst (unnamed (problem_at bound number)) (input_at input number) sets → is_cut (walk_at input bound number) ≡ false
  found_isnt_cut number sets are = ap is_cut are.came

  pub found_isnt_nowhere : (number : ℕ) (sets : List (List ℕ)) → AreFirst (unnamed (problem_at bound number)) (input_at input number) sets → is_nowhere (walk_at input bound number) ≡ false
  found_isnt_nowhere number sets are = ap is_nowhere are.came

-- ---- two facts of what may be made
pub both_ok : {A E : Type 0} (r : Result A E) (P Q R : A → Type 0) → ((a : A) → P a → Q a → R a) → IfOk r P → IfOk r Q → IfOk r R
both_ok (Ok a) P Q R f p q = f a p q
both_ok (Err e) P Q R f p q = tt
