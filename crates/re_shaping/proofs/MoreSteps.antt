-- A chain with one derived step more is a chain, and stays sound.
use Rattle.std.proofs.Common.{◌≡◌, ℕ, ◌+◌, ◌<◌, ◌≤◌, Bool, true, false, not, leb, List, [], ◌∷◌, ◌++◌, length, None, Option, Some, refl, sym, ap, ◌∙◌, subst, arith, inl, inr, length-append}
use Rattle.std.proofs.lemmas.Bool.Decides.{nat_tests}
use Rattle.std.specs.Prelude.{◌&&◌, ◌||◌, if◌then◌else◌, option_map}
use Rattle.std.specs.List.{AllByRecursion, list_all}
use Rattle.std.proofs.lemmas.List.{map-append}
use Rattle.re_labels.proofs.Membership.{all-In, all-push, any-In_from}
use Rattle.re_labels.proofs.Tests.{and-true, or-left, or-right, or-true, true-and}
use Rattle.re_problem.specs.NamedProblems.{IsNamedProblem, NamedProblem, unnamed}
use Rattle.re_problem.specs.Problems.{IsProblem}
use Rattle.re_step.proofs.StepLemmas.{IsNamedProblem-derived}
use Rattle.re_step.specs.Derivations.{step_limit}
use Rattle.re_step.specs.declared.derivation.StepFault.{StepFault}
use Rattle.re_step.specs.declared.derivation.StepFault.TheVariants as step_fault
use Rattle.re_step.specs.declared.derivation.StepLimit.{StepLimit}
use Rattle.re_cert.proofs.FittingStates.{one_more}
use Rattle.re_cert.specs.Bounds.{Bound, BoundStep, has_row_maps, is_bound, is_by_row, is_fixed, is_lower, kind_fits, last_problem, map_fits, next_problems, one_form, renaming_fits, row_fits, step_fits, steps_fit}
use Rattle.re_cert.specs.declared.certificate.Kind.{Kind}
use Rattle.re_cert.specs.declared.certificate.Kind.TheVariants.{Fixed, Lower, Upper}
use Rattle.re_cert.specs.declared.certificate.TheConstants.{MAX_STEPS}
use Rattle.re_check.specs.Clauses.{step_fault}
use Rattle.re_search.proofs.Paths.{fits-more, step-good, valid-more}
use Rattle.re_check.proofs.Meaning.{named-last}
use Rattle.re_shaping.proofs.OwnEntries.{few-labels}
use Rattle.re_shaping.proofs.RowForms.{step-fits, step-form, step-sound}
use Rattle.re_shaping.specs.StepLaws.{StepLaw}
use Rattle.re_chains.proofs.ChainBounds.{lower-chain}
use Rattle.re_chains.specs.Chains.{IsOverProblems, IsSound, chain_kind}
use Rattle.re_shaping.specs.RowForms.{step_by_rows}
use Rattle.re_shaping.specs.Stepped.{derived_step, fault_of_step, next_step, stepped, stepping_fault}
use Rattle.re_shaping.specs.declared.stepping.ChainStepFault.{ChainStepFault}
use Rattle.re_shaping.specs.declared.stepping.ChainStepFault.TheVariants.{Limit, NoMemory, TooManySteps}
use Rattle.re_labels.specs.declared.TheConstants.{MAX_ROWS}

-- ---- what nothing keeps from a step more
may-step : (bound : Bound) → stepping_fault bound ≡ None → (length bound.steps < MAX_STEPS) × (step_limit (unnamed (last_problem bound)) ≡ None)
may-step bound none = go (leb MAX_STEPS (length bound.steps)) refl (step_limit (unnamed (last_problem bound))) refl
  where
    go : (b : Bool) → leb MAX_STEPS (length bound.steps) ≡ b → (o : Option _) → step_limit (unnamed (last_problem bound)) ≡ o
        → (length bound.steps < MAX_STEPS) × (step_limit (unnamed (last_problem bound)) ≡ None)
    go true e o f = let some : Some TooManySteps ≡ None = ap (λ b. if b then Some TooManySteps else option_map Limit (step_limit (unnamed (last_problem bound)))) (sym e) ∙ none in absurd (cc)
    go false e None f = (grind (arith, nat_tests), f)
    go false e (Some limit) f =
        let some : Some (Limit limit) ≡ None = (λ i. if sym e i then Some TooManySteps else option_map Limit (sym f i)) ∙ none in
        absurd (cc)

-- ---- the kind of a chain
fits-chain : (kind : Kind) (before : NamedProblem) (steps : List BoundStep) → steps_fit kind before steps ≡ true → steps_fit (chain_kind kind) before steps ≡ true
fits-chain Lower before steps fit = fit
fits-chain Upper before steps fit = fit
fits-chain Fixed before steps fit = same before steps ∙ fit
  where
    same : (before : NamedProblem) (steps : List BoundStep) → steps_fit Lower before steps ≡ steps_fit Fixed before steps
    same before [] = refl
    same before (s ∷ steps) = ap (λ b. step_fits Fixed before s && b) (same s.next steps)

no_way : (kind : Kind) (b : Bool) → (if is_fixed (chain_kind kind) then b else true) ≡ true
no_way Lower b = refl
no_way Upper b = refl
no_way Fixed b = refl

-- ---- the form of the maps
-- a bound of upper steps has no maps by rows
rows-lower : (kind : Kind) (before : NamedProblem) (steps : List BoundStep) → steps_fit kind before steps ≡ true → has_row_maps steps ≡ true → is_lower kind ≡ true
rows-lower kind before [] fit some = cc
rows-lower kind before (s ∷ steps) fit some = go (is_by_row s.map) refl (λ more. rows-lower kind s.next steps (and-true (step_fits kind before s) (steps_fit kind s.next steps) fit).1 more)
  where
    of_kind : (lower low by_row : Bool) → by_row ≡ true → (if lower then low else not low && not by_row) ≡ true → low ≡ true
    of_kind true low by_row e h = h
    of_kind false true by_row e h = refl
    of_kind false false true e h = absurd (cc)
    of_kind false false false e h = absurd (cc)

    go : (b : Bool) → is_by_row s.map ≡ b → (has_row_maps steps ≡ true → is_lower kind ≡ true) → is_lower kind ≡ true
    go true e rest =
        let (front, fits) = and-true (kind_fits kind s && leb (length s.rows) MAX_ROWS && list_all (row_fits before) s.rows) (map_fits before s.next s.map) (and-true (step_fits kind before s) (steps_fit kind s.next steps) fit).0 in
        let (few, rows) = and-true (kind_fits kind s && leb (length s.rows) MAX_ROWS) (list_all (row_fits before) s.rows) front in
        of_kind s.lower (is_lower kind) (is_by_row s.map) e (and-true (kind_fits kind s) (leb (length s.rows) MAX_ROWS) few).0
    go false e rest = rest (ap (λ b. b || has_row_maps steps) (sym e) ∙ some)

-- where some map is by rows, all are
all-rows : (steps : List BoundStep) → one_form steps ≡ true → has_row_maps steps ≡ true → list_all (λ (s : BoundStep). is_by_row s.map) steps ≡ true
all-rows steps form some = elim (or-true (list_all (λ (s : BoundStep). is_by_row s.map) steps) (list_all (λ (s : BoundStep). not (is_by_row s.map)) steps) form) [
  | inl all ↦ all
  | inr none ↦
      let (s, i, there) = any-In_from (λ (s : BoundStep). is_by_row s.map) steps some in
      let no : not (is_by_row s.map) ≡ true = all-In (λ (s : BoundStep). not (is_by_row s.map)) steps none s i in
      let impossible : not true ≡ true = ap not (sym there) ∙ no in
      absurd (cc)
]

-- where none is, all are by sets
pub all-sets : (steps : List BoundStep) → has_row_maps steps ≡ false → list_all (λ (s : BoundStep). not (is_by_row s.map)) steps ≡ true
all-sets [] none = refl
all-sets (s ∷ steps) none = go (is_by_row s.map) refl (all-sets steps)
  where
    go : (b : Bool) → is_by_row s.map ≡ b → (has_row_maps steps ≡ false → list_all (λ (s : BoundStep). not (is_by_row s.map)) steps ≡ true) → list_all (λ (s : BoundStep). not (is_by_row s.map)) (s ∷ steps) ≡ true
    go true e rest = let some : true ≡ false = ap (λ b. b || has_row_maps steps) (sym e) ∙ none in absurd (cc)
    go false e rest = true-and (not (is_by_row s.map)) (list_all (λ (s : BoundStep). not (is_by_row s.map)) steps) (ap not e) (rest (ap (λ b. b || has_row_maps steps) (sym e) ∙ none))

-- ---- the step more
module _ (bound : Bound) (is : is_bound bound ≡ true) (problem : IsProblem (unnamed (last_problem bound))) (room : length bound.steps < MAX_STEPS) (limit : step_limit (unnamed (last_problem bound)) ≡ None) where
  -- the parts of the bound
  parts : (steps_fit bound.kind bound.first bound.steps ≡ true) × (one_form bound.steps ≡ true)
  parts =
      let (front, back) = and-true (leb (length bound.steps) MAX_STEPS && steps_fit bound.kind bound.first bound.steps && one_form bound.steps) (renaming_fits bound) is in
      let (fitting, form) = and-true (leb (length bound.steps) MAX_STEPS && steps_fit bound.kind bound.first bound.steps) (one_form bound.steps) front in
      ((and-true (leb (length bound.steps) MAX_STEPS) (steps_fit bound.kind bound.first bound.steps) fitting).1, form)

  -- the step to the derived problem fits, meets its clauses and has its map by sets
  good : (step_fits (chain_kind bound.kind) (last_problem bound) (derived_step (is_lower bound.kind) (last_problem bound)) ≡ true) × (step_fault (last_problem bound) (derived_step (is_lower bound.kind) (last_problem bound)) ≡ None)
  good =
      let all = step-good (chain_kind bound.kind) 0 (last_problem bound) (derived_step (is_lower (chain_kind bound.kind)) (last_problem bound)) problem limit (inl refl) in
      subst (λ b. (step_fits (chain_kind bound.kind) (last_problem bound) (derived_step b (last_problem bound)) ≡ true) × (step_fault (last_problem bound) (derived_step b (last_problem bound)) ≡ None))
      (lower-chain bound.kind) (all.0, all.1)

  -- in either form it fits and meets its clauses
  formed : (b : Bool) → (step_fits (chain_kind bound.kind) (last_problem bound) (if b then step_by_rows (derived_step (is_lower bound.kind) (last_problem bound)) else derived_step (is_lower bound.kind) (last_problem bound)) ≡ true)
      × (step_fault (last_problem bound) (if b then step_by_rows (derived_step (is_lower bound.kind) (last_problem bound)) else derived_step (is_lower bound.kind) (last_problem bound)) ≡ None)
  formed true = (
    step-fits (chain_kind bound.kind) (last_problem bound) (derived_step (is_lower bound.kind) (last_problem bound)) good.0 good.1,
    step-sound (last_problem bound) (derived_step (is_lower bound.kind) (last_problem bound)) good.1,
  )
  formed false = good

  -- the maps have one form with its map
  form : one_form (bound.steps ++ next_step bound ∷ []) ≡ true
  form = go (has_row_maps bound.steps) refl
    where
      go : (b : Bool) → has_row_maps bound.steps ≡ b → one_form (bound.steps ++ next_step bound ∷ []) ≡ true
      go true e =
          let low : is_lower bound.kind ≡ true = rows-lower bound.kind bound.first bound.steps parts.0 e in
          let shape : is_by_row (step_by_rows (derived_step (is_lower bound.kind) (last_problem bound))).map ≡ true =
          step-form (chain_kind bound.kind) (last_problem bound) (derived_step (is_lower bound.kind) (last_problem bound)) good.0 ∙ lower-chain bound.kind ∙ low in
          let here : is_by_row (next_step bound).map ≡ true =
          ap (λ b. is_by_row (if b then step_by_rows (derived_step (is_lower bound.kind) (last_problem bound)) else derived_step (is_lower bound.kind) (last_problem bound)).map) e ∙ shape in
          or-left (list_all (λ (s : BoundStep). is_by_row s.map) (bound.steps ++ next_step bound ∷ [])) (list_all (λ (s : BoundStep). not (is_by_row s.map)) (bound.steps ++ next_step bound ∷ []))
          (one_more (λ (s : BoundStep). is_by_row s.map) bound.steps (next_step bound) (all-rows bound.steps parts.1 e) here)
      go false e =
          let here : not (is_by_row (next_step bound).map) ≡ true =
          ap (λ b. not (is_by_row (if b then step_by_rows (derived_step (is_lower bound.kind) (last_problem bound)) else derived_step (is_lower bound.kind) (last_problem bound)).map)) e in
          or-right (list_all (λ (s : BoundStep). is_by_row s.map) (bound.steps ++ next_step bound ∷ [])) (list_all (λ (s : BoundStep). not (is_by_row s.map)) (bound.steps ++ next_step bound ∷ []))
          (one_more (λ (s : BoundStep). not (is_by_row s.map)) bound.steps (next_step bound) (all-sets bound.steps e) here)

  stepped-bound : is_bound (stepped bound) ≡ true
  stepped-bound =
      let steps : List BoundStep = bound.steps ++ next_step bound ∷ [] in
      let more : length steps ≡ length bound.steps + 1 = length-append bound.steps (next_step bound ∷ []) in
      let few : leb (length steps) MAX_STEPS ≡ true = (let l : length steps ≤ MAX_STEPS = omega arith in grind (arith, nat_tests)) in
      true-and (leb (length steps) MAX_STEPS && steps_fit (chain_kind bound.kind) bound.first steps && one_form steps) (renaming_fits (stepped bound))
      (true-and (leb (length steps) MAX_STEPS && steps_fit (chain_kind bound.kind) bound.first steps) (one_form steps)
      (true-and (leb (length steps) MAX_STEPS) (steps_fit (chain_kind bound.kind) bound.first steps) few
      (fits-more (chain_kind bound.kind) bound.first bound.steps (next_step bound) (fits-chain bound.kind bound.first bound.steps parts.0) (formed (has_row_maps bound.steps)).0))
      form)
      (no_way bound.kind _)

  stepped-sound : IsSound bound → IsSound (stepped bound)
  stepped-sound sound = valid-more 1 bound.first bound.steps (next_step bound) sound (formed (has_row_maps bound.steps)).1

-- ---- problems
next-derived : (b : Bool) (s : BoundStep) → (if b then step_by_rows s else s).next ≡ s.next
next-derived true s = refl
next-derived false s = refl

stepped-problems : (bound : Bound) → IsOverProblems bound → step_limit (unnamed (last_problem bound)) ≡ None → IsOverProblems (stepped bound)
stepped-problems bound is limit = record {
  first = is.first;
  next = subst (AllByRecursion IsNamedProblem) (sym (map-append (λ (s : BoundStep). s.next) bound.steps (next_step bound ∷ []))) (all-push IsNamedProblem (next_problems bound.steps) (next_step bound).next is.next derived);
}
  where
    last : IsNamedProblem (last_problem bound)
    last = named-last bound.first (next_problems bound.steps) is.first is.next

    derived : IsNamedProblem (next_step bound).next
    derived = subst IsNamedProblem (sym (next-derived (has_row_maps bound.steps) (derived_step (is_lower bound.kind) (last_problem bound))))
        (IsNamedProblem-derived (unnamed (last_problem bound)) last.problem (few-labels (unnamed (last_problem bound)) limit))

pub bound_holds : (bound : Bound) → is_bound bound ≡ true → IsOverProblems bound → stepping_fault bound ≡ None → is_bound (stepped bound) ≡ true
bound_holds bound is over none =
    let may = may-step bound none in
    stepped-bound bound is (named-last bound.first (next_problems bound.steps) over.first over.next).problem may.0 may.1

pub step_holds : StepLaw
step_holds bound is none =
    let may = may-step bound none in
    let last = named-last bound.first (next_problems bound.steps) is.problems.first is.problems.next in
    record {
      bound = bound_holds bound is.bound is.problems none;
      problems = stepped-problems bound is.problems may.1;
      sound = stepped-sound bound is.bound last.problem may.0 may.1 is.sound;
    }

-- ---- what the program holds
pub held-stepped : (bound : Bound) (kind : Kind) (first : NamedProblem) (steps : List BoundStep) (renaming : List (ℕ × ℕ)) → kind ≡ chain_kind bound.kind → first ≡ bound.first
    → steps ≡ bound.steps ++ next_step bound ∷ [] → renaming ≡ [] → record { kind = kind; back = 0; first = first; steps = steps; renaming = renaming } ≡ stepped bound
held-stepped bound kind first steps renaming e f g h = (λ i. record { kind = e i; back = 0; first = f i; steps = g i; renaming = h i })

pub next-held : (bound : Bound) (s : BoundStep) (b : Bool) (kind : Kind) (last : NamedProblem) → s ≡ (if b then step_by_rows (derived_step (is_lower kind) last) else derived_step (is_lower kind) last)
    → b ≡ has_row_maps bound.steps → kind ≡ bound.kind → last ≡ last_problem bound → s ≡ next_step bound
next-held bound s b kind last e f g h =
    e ∙ (λ i. if f i then step_by_rows (derived_step (is_lower (g i)) (h i)) else derived_step (is_lower (g i)) (h i))

-- with room left the limit alone decides
room-left : (bound : Bound) (steps : List BoundStep) → steps ≡ bound.steps → length steps < MAX_STEPS → leb MAX_STEPS (length bound.steps) ≡ false
room-left bound steps e l = let m : length bound.steps < MAX_STEPS = subst (λ (steps : List BoundStep). length steps < MAX_STEPS) e l in grind (arith, nat_tests)

pub nothing-keeps : (bound : Bound) (steps : List BoundStep) (last : NamedProblem) → steps ≡ bound.steps → length steps < MAX_STEPS → last ≡ last_problem bound → step_limit (unnamed last) ≡ None → stepping_fault bound ≡ None
nothing-keeps bound steps last e l f none =
    (λ i. if room-left bound steps e l i then Some TooManySteps else option_map Limit (step_limit (unnamed (sym f i)))) ∙ ap (option_map Limit) none

pub limit-keeps : (bound : Bound) (steps : List BoundStep) (last : NamedProblem) (limit : StepLimit) → steps ≡ bound.steps → length steps < MAX_STEPS → last ≡ last_problem bound → step_limit (unnamed last) ≡ Some limit
    → stepping_fault bound ≡ Some (Limit limit)
limit-keeps bound steps last limit e l f some =
    (λ i. if room-left bound steps e l i then Some TooManySteps else option_map Limit (step_limit (unnamed (sym f i)))) ∙ ap (option_map Limit) some

-- a limit comes from a limit of the derivation
pub limit-from : (fault : StepFault) (found : ChainStepFault) (limit : StepLimit) → found ≡ fault_of_step fault → found ≡ Limit limit → fault ≡ step_fault.Limit limit
limit-from (step_fault.Limit passed) found limit e f = let same : Limit passed ≡ Limit limit = sym e ∙ f in cc
limit-from step_fault.NoMemory found limit e f = let same : NoMemory ≡ Limit limit = sym e ∙ f in absurd (cc)
