-- The steps along a path, stop after stop.
use Rattle.std.proofs.Common.{◌≡◌, Bool, true, false, None, Some, cond, List, [], ◌∷◌, ◌++◌, sym, ap, ◌∙◌, subst, append_assoc}
use Rattle.std.specs.Prelude.{is_none}
use Rattle.std.proofs.lemmas.List.{map-append}
use Rattle.re_problem.proofs.TextLines.{last_push}
use Rattle.re_problem.specs.NamedProblems.{NamedProblem, unnamed}
use Rattle.re_problem.specs.ProblemTexts.{last_or}
use Rattle.re_cert.specs.Bounds.{BoundStep, next_problems}
use Rattle.re_step.specs.Derivations.{step_limit}
use Rattle.re_shaping.specs.Along.{step_along, step_found, steps_along}
use Rattle.re_shaping.specs.declared.along.Stop.{Stop}

-- the problem behind one step more
behind_more : (first : NamedProblem) (steps : List BoundStep) (s : BoundStep) → last_or first (next_problems (steps ++ s ∷ [])) ≡ s.next
behind_more first steps s = ap (last_or first) (map-append (λ (t : BoundStep). t.next) steps (s ∷ [])) ∙ last_push first (next_problems steps) s.next

module _ (by_rows : Bool) (first before : NamedProblem) (steps whole : List BoundStep) (stop : Stop) (rest : List Stop) (at : before ≡ last_or first (next_problems steps))
    (so_far : steps ++ steps_along by_rows (last_or first (next_problems steps)) (stop ∷ rest) ≡ whole) where
  from_before : steps ++ steps_along by_rows before (stop ∷ rest) ≡ whole
  from_before = ap (λ p. steps ++ steps_along by_rows p (stop ∷ rest)) at ∙ so_far

  pub step_passed : step_found by_rows before stop ≡ None → steps ++ steps_along by_rows (last_or first (next_problems steps)) rest ≡ whole
  step_passed none = ap (λ p. steps ++ steps_along by_rows p rest) (sym at) ∙ go (is_none (step_limit (unnamed before))) none from_before
    where
      go : (b : Bool) → cond b (Some (step_along by_rows before stop)) None ≡ None
          → steps ++ cond b (step_along by_rows before stop ∷ steps_along by_rows stop.problem rest) (steps_along by_rows before rest) ≡ whole
          → steps ++ steps_along by_rows before rest ≡ whole
      go true e f = absurd (cc)
      go false e f = f

  pub step_taken : (s : BoundStep) (new : List BoundStep) → step_found by_rows before stop ≡ Some s → new ≡ steps ++ s ∷ [] → new ++ steps_along by_rows (last_or first (next_problems new)) rest ≡ whole
  step_taken s new some pushed =
      subst (λ l. l ++ steps_along by_rows (last_or first (next_problems l)) rest ≡ whole) (sym pushed)
      (ap (λ p. (steps ++ s ∷ []) ++ steps_along by_rows p rest) (behind_more first steps s)
      ∙ go (is_none (step_limit (unnamed before))) some from_before)
    where
      go : (b : Bool) → cond b (Some (step_along by_rows before stop)) None ≡ Some s
          → steps ++ cond b (step_along by_rows before stop ∷ steps_along by_rows stop.problem rest) (steps_along by_rows before rest) ≡ whole
          → (steps ++ s ∷ []) ++ steps_along by_rows s.next rest ≡ whole
      go false e f = absurd (cc)
      go true e f =
          let same : step_along by_rows before stop ≡ s = cc in
          append_assoc steps (s ∷ []) (steps_along by_rows s.next rest) ∙ subst (λ (t : BoundStep). steps ++ (t ∷ steps_along by_rows t.next rest) ≡ whole) same f
