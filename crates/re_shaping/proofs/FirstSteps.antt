-- A lower step by rows fits; the step from a problem to the derived problem of a relaxation does, and meets its clauses.
use Rattle.std.proofs.Common.{◌≡◌, ℕ, ◌<◌, ◌≤◌, Bool, true, false, eqb, leb, ltb, List, [], ◌∷◌, length, map, None, Some, Result, Ok, Err, refl, sym, ap, ◌∙◌, arith}
use Rattle.std.proofs.lemmas.Bool.Decides.{nat_tests}
use Rattle.std.specs.Prelude.{◌&&◌, IsErrAnd, if◌then◌else◌, option_map}
use Rattle.std.specs.List.{list_all}
use Rattle.re_cert.specs.Bounds.{BoundStep, image_fits, is_bound, is_label, is_lower, row_fits, step_fits}
use Rattle.re_cert.specs.declared.certificate.Kind.{Kind}
use Rattle.re_chains.proofs.ChainBounds.{lower-chain}
use Rattle.re_chains.specs.Chains.{IsSoundChain, chain_kind, chain_with}
use Rattle.re_shaping.proofs.OwnEntries.{few-labels}
use Rattle.re_check.specs.Verdicts.{fault_at, fault_or}
use Rattle.re_check.proofs.StepMeaning.{lower_clauses}
use Rattle.re_check.specs.Clauses.{step_fault}
use Rattle.re_labels.specs.declared.TheConstants.{MAX_ROWS}
use Rattle.re_labels.proofs.Membership.{In-Contains, all-In_from}
use Rattle.re_labels.proofs.Tests.{eqb-same, true-and}
use Rattle.re_problem.proofs.Building.{below_all}
use Rattle.re_problem.specs.NamedProblems.{IsNamedProblem, NamedProblem, unnamed}
use Rattle.re_problem.specs.Steps.LowerMap.{by_row}
use Rattle.re_problem.specs.Steps.{IsLowerStepByRow, IsRelaxed, LowerMap}
use Rattle.re_step.proofs.StepLemmas.{IsNamedProblem-derived}
use Rattle.re_step.specs.Derivations.{Derivation, derivation, named_derived, step_limit}
use Rattle.re_step.specs.declared.derivation.StepFault.{StepFault}
use Rattle.re_step.specs.declared.derivation.StepLimit.TheVariants.{Rows}
use Rattle.re_labels.specs.GoodRows.{max_rows}
use Rattle.re_labels.proofs.ConstraintImages.{held_labels}
use Rattle.re_search.proofs.Entries.{rows-fit}
use Rattle.re_shaping.proofs.DerivedRelaxations.{to-derived}
use Rattle.re_shaping.proofs.LastSteps.{chain_with-bound}
use Rattle.re_algo.specs.Constructions.{top_places}
use Rattle.re_shaping.specs.Relaxing.{relaxed_limit, relaxed_step, row_image, top_images}

abbrev pub the_step : NamedProblem → List (List (List ℕ)) → LowerMap → BoundStep
the_step next rows map = record { lower = true; next = next; rows = rows; map = map }

-- ---- limits
pub relaxed-within : (problem relaxed : NamedProblem) → relaxed_limit problem relaxed ≡ None → (length (max_rows problem.passive (length problem.names)) ≤ MAX_ROWS) × (step_limit (unnamed relaxed) ≡ None)
relaxed-within problem relaxed none = go (ltb MAX_ROWS (length (max_rows problem.passive (length problem.names)))) refl none
  where
    go : (b : Bool) → ltb MAX_ROWS (length (max_rows problem.passive (length problem.names))) ≡ b → (if b then Some Rows else step_limit (unnamed relaxed)) ≡ None
        → (length (max_rows problem.passive (length problem.names)) ≤ MAX_ROWS) × (step_limit (unnamed relaxed) ≡ None)
    go true e h = cc
    go false e h = (grind (arith, nat_tests), h)

-- ---- a step by rows
module _ (problem next : NamedProblem) (images : List (List ℕ)) (fine : IsNamedProblem next) (few : length (max_rows problem.passive (length problem.names)) ≤ MAX_ROWS)
    (step : IsLowerStepByRow (unnamed problem) (unnamed next) (max_rows problem.passive (length problem.names)) images) where
  few-images : leb (length images) MAX_ROWS ≡ true
  few-images = let f = few in let count = step.count in grind (arith, nat_tests)

  images-fit : list_all (image_fits problem next) images ≡ true
  images-fit = all-In_from (image_fits problem next) images (λ labels i.
      let (count, low) = held_labels (length next.names) next.active labels fine.problem.active (step.active labels (In-Contains labels images i)) in
      true-and (eqb (length labels) problem.passive.degree) (list_all (is_label next) labels)
      (ap (λ d. eqb d problem.passive.degree) (count ∙ step.active_degree) ∙ eqb-same problem.passive.degree)
      (below_all (length next.names) labels low))

  pub row_step-fits : (kind : Kind) → is_lower kind ≡ true → step_fits kind problem (the_step next (max_rows problem.passive (length problem.names)) (by_row images)) ≡ true
  row_step-fits kind lower =
      let rows : List (List (List ℕ)) = max_rows problem.passive (length problem.names) in
      let short : leb (length rows) MAX_ROWS ≡ true = (let f = few in grind (arith, nat_tests)) in
      true-and (is_lower kind && leb (length rows) MAX_ROWS && list_all (row_fits problem) rows) (leb (length images) MAX_ROWS && list_all (image_fits problem next) images)
      (true-and (is_lower kind && leb (length rows) MAX_ROWS) (list_all (row_fits problem) rows) (true-and (is_lower kind) (leb (length rows) MAX_ROWS) lower short) (rows-fit problem))
      (true-and (leb (length images) MAX_ROWS) (list_all (image_fits problem next) images) few-images images-fit)

-- ---- the step to a derived problem
module _ (problem relaxed : NamedProblem) (image : ℕ → ℕ) (below : (label : ℕ) → label < length problem.names → image label < length relaxed.names)
    (is : IsRelaxed (unnamed problem) (unnamed relaxed) image) (fine : IsNamedProblem relaxed) (limit : relaxed_limit problem relaxed ≡ None) where
  abbrev rows : List (List (List ℕ))
  rows = max_rows problem.passive (length problem.names)

  abbrev images : List (List ℕ)
  images = top_images image (unnamed relaxed) (max_rows problem.passive (length problem.names))

  pub next-named : IsNamedProblem (named_derived (unnamed relaxed))
  next-named = IsNamedProblem-derived (unnamed relaxed) fine.problem (few-labels (unnamed relaxed) (relaxed-within problem relaxed limit).1)

  to-named : IsLowerStepByRow (unnamed problem) (unnamed (named_derived (unnamed relaxed))) rows images
  to-named =
      let step = to-derived (unnamed problem) (unnamed relaxed) image below is in
      record { active_degree = step.active_degree; passive_degree = step.passive_degree; maximal = step.maximal; count = step.count; active = step.active; passive = step.passive }

  pub relaxed-meets : step_fault problem (relaxed_step image problem relaxed) ≡ None
  relaxed-meets = (lower_clauses problem (relaxed_step image problem relaxed) refl).1 to-named

  pub relaxed-fits : (kind : Kind) → is_lower kind ≡ true → step_fits kind problem (relaxed_step image problem relaxed) ≡ true
  relaxed-fits kind lower = row_step-fits problem (named_derived (unnamed relaxed)) images next-named (relaxed-within problem relaxed limit).0 to-named kind lower

  -- ---- the chain of this step
  pub first-bound : (kind : Kind) → is_lower kind ≡ true → is_bound (chain_with kind problem (relaxed_step image problem relaxed ∷ [])) ≡ true
  first-bound kind lower =
      chain_with-bound kind problem (relaxed_step image problem relaxed ∷ []) refl
      (true-and (step_fits (chain_kind kind) problem (relaxed_step image problem relaxed)) true (relaxed-fits (chain_kind kind) (lower-chain kind ∙ lower)) refl) refl

  pub first-sound : (kind : Kind) → is_lower kind ≡ true → IsNamedProblem problem → IsSoundChain (chain_with kind problem (relaxed_step image problem relaxed ∷ []))
  first-sound kind lower named = record {
    bound = first-bound kind lower;
    problems = record { first = named; next = (next-named, tt) };
    sound = ap (λ o. fault_or (option_map (fault_at 1) o) None) relaxed-meets;
  }

-- ---- what the program makes
pub step-made : (problem relaxed : NamedProblem) (image : ℕ → ℕ) (made : Derivation) (next : NamedProblem) (rows given : List (List (List ℕ))) (tops : List (List ℕ)) → made ≡ derivation (unnamed relaxed) → next ≡ made.problem
    → rows ≡ max_rows problem.passive (length problem.names) → given ≡ rows → tops ≡ map (λ row. top_places made.rows made.sets (row_image image row)) given
    → the_step next rows (by_row tops) ≡ relaxed_step image problem relaxed
step-made problem relaxed image made next its given tops made_is next_is rows_are given_are tops_are =
    let same_tops : tops ≡ top_images image (unnamed relaxed) (max_rows problem.passive (length problem.names)) =
    tops_are ∙ (λ i. map (λ row. top_places (made_is i).rows (made_is i).sets (row_image image row)) ((given_are ∙ rows_are) i)) in
    let same_next : next ≡ named_derived (unnamed relaxed) = next_is ∙ ap (λ (d : Derivation). d.problem) made_is in
    (λ i. the_step (same_next i) (rows_are i) (by_row (same_tops i)))

-- a fault that is handed on
pub err_is : {X : Type 0} (r : Result X StepFault) (fault passed : StepFault) → IsErrAnd r (λ e. e ≡ fault) → r ≡ Err passed → fault ≡ passed
err_is (Ok x) fault passed gives e = cc
err_is {X} (Err f) fault passed gives e = let same : f ≡ passed = cc in sym gives ∙ same
