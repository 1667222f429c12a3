use Rattle.std.proofs.Common.{◌≡◌, ◌<◌, ◌↔◌, ap, arith, length, sym, subst, ◌∙◌}
use Rattle.std.specs.List.{AllByRecursion}
use Rattle.re_labels.proofs.LeastLabels.{length-set}
use Rattle.re_labels.specs.Sets.{IsLabelSet}
use Rattle.re_laws.specs.Algorithms.{Solvable}
use Rattle.re_problem.specs.NamedProblems.{NamedProblem, unnamed}
use Rattle.re_changes.proofs.RenumberedProblems.{built-along}
use Rattle.re_changes.proofs.KeptRounds.{merge_rounds_law}
use Rattle.re_changes.proofs.MergedLabels.{IsLabelSet-unmerged, configs-below, images-are, length-merge_map, merged-below, merged-built, stay-is}
use Rattle.re_changes.specs.Merging.{Merging, merge_map, unmerged}
use Rattle.re_changes.specs.Renumbering.{renumbered}
use Rattle.re_changes.proofs.merging.merge.Goals as goal
use Rattle.re_labels.specs.declared.TheConstants.{MAX_LABELS}

pub renumbered-requires-clause-stay : goal.renumbered-requires-clause-stay
renumbered-requires-clause-stay c =
    let stay : c.as_slice-4.result.now ≡ unmerged c.args.problem.now = stay-is c.args.problem.now c.as_slice.result.now c.as_slice-2.result.now c.least_labels-stay.result.items c.as_slice-3.result.now c.as_slice-4.result.now c.merge_map-images.result.items c.as_slice-5.result.now
    (c.as_slice.ensures.value ∙ c.cover_sets-covers.ensures) (c.as_slice-2.ensures.value ∙ sym c.as_slice.ensures.value) c.least_labels-stay.ensures c.as_slice-3.ensures.value c.as_slice-4.ensures.value c.merge_map-images.ensures c.as_slice-5.ensures.value in
    let set : IsLabelSet (length c.args.problem.now.names) (unmerged c.args.problem.now) = IsLabelSet-unmerged c.args.problem.now c.names.ensures.problem in
    subst (λ s. IsLabelSet (length c.names.result.now) s) (sym stay) (subst (λ l. IsLabelSet (length l) (unmerged c.args.problem.now)) (sym c.names.ensures.names) set)

pub renumbered-requires-clause-active_known : goal.renumbered-requires-clause-active_known
renumbered-requires-clause-active_known c =
    let images : c.as_slice-5.result.now ≡ merge_map c.args.problem.now = images-are c.args.problem.now c.as_slice.result.now c.as_slice-2.result.now c.least_labels-stay.result.items c.as_slice-3.result.now c.as_slice-4.result.now c.merge_map-images.result.items c.as_slice-5.result.now
    (c.as_slice.ensures.value ∙ c.cover_sets-covers.ensures) (c.as_slice-2.ensures.value ∙ sym c.as_slice.ensures.value) c.least_labels-stay.ensures c.as_slice-3.ensures.value c.as_slice-4.ensures.value c.merge_map-images.ensures c.as_slice-5.ensures.value in
    subst (λ constraint. AllByRecursion (AllByRecursion (λ label. label < length c.as_slice-5.result.now)) constraint.configs) (sym c.active.ensures.active)
    (configs-below (length c.args.problem.now.names) (length c.as_slice-5.result.now) c.args.problem.now.active c.names.ensures.problem.problem.active
    (sym (ap length images ∙ length-merge_map c.args.problem.now c.names.ensures.problem)))

pub renumbered-requires-clause-passive_known : goal.renumbered-requires-clause-passive_known
renumbered-requires-clause-passive_known c =
    let images : c.as_slice-5.result.now ≡ merge_map c.args.problem.now = images-are c.args.problem.now c.as_slice.result.now c.as_slice-2.result.now c.least_labels-stay.result.items c.as_slice-3.result.now c.as_slice-4.result.now c.merge_map-images.result.items c.as_slice-5.result.now
    (c.as_slice.ensures.value ∙ c.cover_sets-covers.ensures) (c.as_slice-2.ensures.value ∙ sym c.as_slice.ensures.value) c.least_labels-stay.ensures c.as_slice-3.ensures.value c.as_slice-4.ensures.value c.merge_map-images.ensures c.as_slice-5.ensures.value in
    subst (λ constraint. AllByRecursion (AllByRecursion (λ label. label < length c.as_slice-5.result.now)) constraint.configs) (sym c.passive.ensures.passive)
    (configs-below (length c.args.problem.now.names) (length c.as_slice-5.result.now) c.args.problem.now.passive c.names.ensures.problem.problem.passive
    (sym (ap length images ∙ length-merge_map c.args.problem.now c.names.ensures.problem)))

pub renumbered-requires-clause-below : goal.renumbered-requires-clause-below
renumbered-requires-clause-below c =
    let images : c.as_slice-5.result.now ≡ merge_map c.args.problem.now = images-are c.args.problem.now c.as_slice.result.now c.as_slice-2.result.now c.least_labels-stay.result.items c.as_slice-3.result.now c.as_slice-4.result.now c.merge_map-images.result.items c.as_slice-5.result.now
    (c.as_slice.ensures.value ∙ c.cover_sets-covers.ensures) (c.as_slice-2.ensures.value ∙ sym c.as_slice.ensures.value) c.least_labels-stay.ensures c.as_slice-3.ensures.value c.as_slice-4.ensures.value c.merge_map-images.ensures c.as_slice-5.ensures.value in
    subst (AllByRecursion (λ image. image < MAX_LABELS)) (sym images)
    (merged-below c.args.problem.now c.names.ensures.problem MAX_LABELS
    (omega (arith, length-set (length c.args.problem.now.names) (unmerged c.args.problem.now) (IsLabelSet-unmerged c.args.problem.now c.names.ensures.problem), c.names.ensures.problem.names.few)))

pub renumbered-requires-clause-built : goal.renumbered-requires-clause-built
renumbered-requires-clause-built c =
    let stay : c.as_slice-4.result.now ≡ unmerged c.args.problem.now = stay-is c.args.problem.now c.as_slice.result.now c.as_slice-2.result.now c.least_labels-stay.result.items c.as_slice-3.result.now c.as_slice-4.result.now c.merge_map-images.result.items c.as_slice-5.result.now
    (c.as_slice.ensures.value ∙ c.cover_sets-covers.ensures) (c.as_slice-2.ensures.value ∙ sym c.as_slice.ensures.value) c.least_labels-stay.ensures c.as_slice-3.ensures.value c.as_slice-4.ensures.value c.merge_map-images.ensures c.as_slice-5.ensures.value in
    let images : c.as_slice-5.result.now ≡ merge_map c.args.problem.now = images-are c.args.problem.now c.as_slice.result.now c.as_slice-2.result.now c.least_labels-stay.result.items c.as_slice-3.result.now c.as_slice-4.result.now c.merge_map-images.result.items c.as_slice-5.result.now
    (c.as_slice.ensures.value ∙ c.cover_sets-covers.ensures) (c.as_slice-2.ensures.value ∙ sym c.as_slice.ensures.value) c.least_labels-stay.ensures c.as_slice-3.ensures.value c.as_slice-4.ensures.value c.merge_map-images.ensures c.as_slice-5.ensures.value in
    let named : NamedProblem = record { names = c.names.result.now; active = c.active.result.now; passive = c.passive.result.now } in
    let same : named ≡ c.args.problem.now = λ i. record { names = c.names.ensures.names i; active = c.active.ensures.active i; passive = c.passive.ensures.passive i } in
    built-along (unmerged c.args.problem.now) c.as_slice-4.result.now (merge_map c.args.problem.now) c.as_slice-5.result.now c.args.problem.now named stay images same (merged-built c.args.problem.now c.names.ensures.problem)

pub returns-clause-merged : goal.returns-clause-merged
returns-clause-merged c =
    let stay : c.as_slice-4.result.now ≡ unmerged c.args.problem.now = stay-is c.args.problem.now c.as_slice.result.now c.as_slice-2.result.now c.least_labels-stay.result.items c.as_slice-3.result.now c.as_slice-4.result.now c.merge_map-images.result.items c.as_slice-5.result.now
    (c.as_slice.ensures.value ∙ c.cover_sets-covers.ensures) (c.as_slice-2.ensures.value ∙ sym c.as_slice.ensures.value) c.least_labels-stay.ensures c.as_slice-3.ensures.value c.as_slice-4.ensures.value c.merge_map-images.ensures c.as_slice-5.ensures.value in
    let images : c.as_slice-5.result.now ≡ merge_map c.args.problem.now = images-are c.args.problem.now c.as_slice.result.now c.as_slice-2.result.now c.least_labels-stay.result.items c.as_slice-3.result.now c.as_slice-4.result.now c.merge_map-images.result.items c.as_slice-5.result.now
    (c.as_slice.ensures.value ∙ c.cover_sets-covers.ensures) (c.as_slice-2.ensures.value ∙ sym c.as_slice.ensures.value) c.least_labels-stay.ensures c.as_slice-3.ensures.value c.as_slice-4.ensures.value c.merge_map-images.ensures c.as_slice-5.ensures.value in
    let named : NamedProblem = record { names = c.names.result.now; active = c.active.result.now; passive = c.passive.result.now } in
    let same : named ≡ c.args.problem.now = λ i. record { names = c.names.ensures.names i; active = c.active.ensures.active i; passive = c.passive.ensures.passive i } in
    let merged = c.in_ok-merged.ensures ∙ (λ i. renumbered (stay i) (images i) (same i)) in
    let map_is = c.in-Some.ensures.0 ∙ images-are c.args.problem.now c.as_slice.result.now c.as_slice-2.result.now c.least_labels-stay.result.items c.as_slice-3.result.now c.as_slice-4.result.now c.merge_map-images.result.items c.as_slice-6.result.now
    (c.as_slice.ensures.value ∙ c.cover_sets-covers.ensures) (c.as_slice-2.ensures.value ∙ sym c.as_slice.ensures.value) c.least_labels-stay.ensures c.as_slice-3.ensures.value c.as_slice-4.ensures.value c.merge_map-images.ensures c.as_slice-6.ensures.value in
    λ i. record { problem = merged i; map = map_is i }

pub returns-clause-rounds : goal.returns-clause-rounds
returns-clause-rounds c = λ T.
    subst (λ p. Solvable (unnamed p) T ↔ Solvable (unnamed c.args.problem.now) T) (sym (ap (λ (m : Merging). m.problem) (returns-clause-merged c))) (merge_rounds_law c.args.problem.now T c.names.ensures.problem)
