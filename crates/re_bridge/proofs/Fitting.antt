-- A lower step that meets its clauses fits the problems on both sides.
use Rattle.std.proofs.Common.{◌≡◌, ℕ, ◌<◌, ◌≤◌, true, eqb, leb, List, [], ◌∷◌, ◌++◌, length, map, Some, refl, sym, ap, ◌∙◌, subst, arith}
use Rattle.std.specs.Prelude.{◌&&◌, Contains}
use Rattle.std.specs.List.{list_all}
use Rattle.std.proofs.lemmas.Bool.Decides.{nat_tests}
use Rattle.re_labels.proofs.ConstraintImages.{held_labels}
use Rattle.re_labels.proofs.Membership.{AllByRecursion-contains, Contains-In, Contains-map, In-Contains, all-In_from}
use Rattle.re_labels.proofs.Tests.{eqb-same, true-and, true-below}
use Rattle.re_problem.proofs.Building.{below_all}
use Rattle.re_problem.specs.NamedProblems.{IsNamedProblem, NamedProblem, unnamed}
use Rattle.re_problem.specs.Steps.{IsLowerStepByRow, IsLowerStepBySet, LowerMap, SetEntry, entry_sets}
use Rattle.re_problem.specs.Steps.LowerMap.{by_row, by_set}
use Rattle.re_cert.specs.Bounds.{Bound, entry_fits, image_fits, is_label, last_problem, map_fits, row_fits, step_fits, step_with}
use Rattle.re_cert.specs.declared.certificate.Kind.TheVariants.{Lower}
use Rattle.re_cert.specs.declared.certificate.StepParts.{StepParts}
use Rattle.re_chains.specs.Chains.{IsSoundChain, chain_with}
use Rattle.re_check.specs.StepClauses.{entry_labels}
use Rattle.re_check.proofs.StepMeaning.{lower_clauses}
use Rattle.re_check.specs.Clauses.{step_fault}
use Rattle.re_search.proofs.Entries.{rows-fit, set-is}
use Rattle.re_bridge.proofs.Bridging.{set_assignment}
use Rattle.re_bridge.specs.Bridges.{IsFound, bridge_of, rows_of, sets_of, step_by}
use Rattle.re_bridge.specs.Laws.{IsAnswer, Meets}
use Rattle.re_bridge.specs.Bridged.{IsBridged, in_one_form}
use Rattle.re_labels.specs.declared.TheConstants.{MAX_ROWS}

-- a step by rows has labels of the next problem
rows_fit : (before next : NamedProblem) (map : LowerMap) → IsNamedProblem before → IsNamedProblem next → length (rows_of before) ≤ MAX_ROWS → Meets before next map → map_fits before next map ≡ true
rows_fit before next (by_set entries) is next_is few met =
    let step : IsLowerStepBySet (unnamed before) (unnamed next) (rows_of before) entries = (lower_clauses before (step_by before next (by_set entries)) refl).0 met in
    let (count, low) = set_assignment before next is next_is entries step in
    all-In_from (entry_fits before next) entries (λ entry i.
    let held : Contains (entry_sets entries) entry.set = Contains-map (λ (e : SetEntry). e.set) entries entry (In-Contains entry entries i) in
    let label : Contains (entry_labels entries) entry.label = Contains-map (λ (e : SetEntry). e.label) entries entry (In-Contains entry entries i) in
    true-and (list_all (is_label before) entry.set) (is_label next entry.label)
    (below_all (length before.names) entry.set (set-is before.passive (length before.names) entry.set (Contains-In entry.set (sets_of before) (subst (λ (sets : List (List ℕ)). Contains sets entry.set) step.sets held))).0.1)
    (true-below entry.label (length next.names) (AllByRecursion-contains (λ x. x < length next.names) (entry_labels entries) entry.label low label)))
rows_fit before next (by_row images) is next_is few met =
    let step : IsLowerStepByRow (unnamed before) (unnamed next) (rows_of before) images = (lower_clauses before (step_by before next (by_row images)) refl).0 met in
    let small : leb (length images) MAX_ROWS ≡ true = (let l : length images ≤ MAX_ROWS = omega (arith, step.count, few) in grind (arith, nat_tests)) in
    true-and (leb (length images) MAX_ROWS) (list_all (image_fits before next) images) small
    (all-In_from (image_fits before next) images (λ image i.
    let (count, low) = held_labels (length next.names) next.active image next_is.problem.active (step.active image (In-Contains image images i)) in
    true-and (eqb (length image) before.passive.degree) (list_all (is_label next) image)
    (ap (λ d. eqb d before.passive.degree) (count ∙ step.active_degree) ∙ eqb-same before.passive.degree)
    (below_all (length next.names) image low)))

pub step_is_fit : (before next : NamedProblem) (map : LowerMap) → IsNamedProblem before → IsNamedProblem next → length (rows_of before) ≤ MAX_ROWS → Meets before next map → step_fits Lower before (step_by before next map) ≡ true
step_is_fit before next map is next_is few met =
    let small : leb (length (rows_of before)) MAX_ROWS ≡ true = grind (arith, nat_tests) in
    true-and (leb (length (rows_of before)) MAX_ROWS && list_all (row_fits before) (rows_of before)) (map_fits before next map)
    (true-and (leb (length (rows_of before)) MAX_ROWS) (list_all (row_fits before) (rows_of before)) small (rows-fit before)) (rows_fit before next map is next_is few met)

-- ---- what is found for a chain
pub found-fits : (last next : NamedProblem) (tries : ℕ) (parts : StepParts) → IsNamedProblem last → IsNamedProblem next → IsFound last next tries (Some parts) → IsAnswer last next (Some parts) → step_fits Lower last (step_with next parts) ≡ true
found-fits last next tries parts is next_is (map, e, same, few) answer = ap (step_fits Lower last) same ∙ step_is_fit last next map is next_is few (ap (step_fault last) (sym same) ∙ answer)

pub found-bridged : (bound longer : Bound) (last next : NamedProblem) (tries : ℕ) (parts : StepParts) → last ≡ last_problem bound → IsFound last next tries (Some parts)
    → longer ≡ chain_with Lower bound.first (in_one_form (bound.steps ++ step_with next parts ∷ [])) → IsSoundChain longer → IsBridged bound next tries (Some longer)
found-bridged bound longer last next tries parts last_is (map, e, same, few) made sound = (
  map,
  ap (λ p. bridge_of p next tries) (sym last_is) ∙ e,
  made ∙ ap (λ s. chain_with Lower bound.first (in_one_form (bound.steps ++ s ∷ []))) (same ∙ ap (λ p. step_by p next map) last_is),
  sound,
)
