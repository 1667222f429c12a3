use Rattle.std.proofs.Common.{◌≡◌, ◌<◌, ap, arith, length, map, refl, subst, sym, ◌∙◌}
use Rattle.std.specs.Prelude.{IfOk}
use Rattle.std.specs.List.{AllByRecursion}
use Rattle.re_labels.specs.Lists.{count_from}
use Rattle.re_labels.specs.Sets.{IsLabelSet}
use Rattle.re_changes.proofs.Counted.{length-map_counted}
use Rattle.re_changes.proofs.RenumberedProblems.{built-along}
use Rattle.re_changes.specs.Changes.{without}
use Rattle.re_changes.proofs.TrimmedProblems.{IsLabelSet-all_but, covered-first, without-below, without-built}
use Rattle.re_changes.specs.Renumbering.{number_among, renumbered}
use Rattle.re_changes.specs.Trimming.{all_but, named_without}
use Rattle.re_changes.proofs.trimming.without.Goals as goal
use Rattle.re_labels.specs.declared.TheConstants.{MAX_LABELS}

pub renumbered_without-requires-clause-stay : goal.renumbered_without-requires-clause-stay
renumbered_without-requires-clause-stay c =
    let n : c.len-labels.result ≡ length c.args.problem.now.names = c.len-labels.ensures.len ∙ ap length c.names.ensures.names in
    let stay : c.as_slice-2.result.now ≡ all_but c.args.label (length c.args.problem.now.names) = c.as_slice-2.ensures.value ∙ c.all_but-stay.ensures ∙ ap (all_but c.args.label) n in
    subst (IsLabelSet (length c.args.problem.now.names)) (sym stay) (IsLabelSet-all_but c.args.label (length c.args.problem.now.names))

pub renumbered_without-requires-clause-known : goal.renumbered_without-requires-clause-known
renumbered_without-requires-clause-known c =
    let n : c.len-labels.result ≡ length c.args.problem.now.names = c.len-labels.ensures.len ∙ ap length c.names.ensures.names in
    let images : c.as_slice-3.result.now ≡ map (number_among (all_but c.args.label (length c.args.problem.now.names))) (count_from 0 (length c.args.problem.now.names)) =
    c.as_slice-3.ensures.value ∙ c.numbers_among-images.ensures ∙ (λ i. map (number_among ((c.as_slice.ensures.value ∙ c.all_but-stay.ensures ∙ ap (all_but c.args.label) n) i)) (count_from 0 (n i))) in
    let all = ap length images ∙ length-map_counted (number_among (all_but c.args.label (length c.args.problem.now.names))) (length c.args.problem.now.names) in
    omega (arith, all)

pub renumbered_without-requires-clause-below : goal.renumbered_without-requires-clause-below
renumbered_without-requires-clause-below c =
    let n : c.len-labels.result ≡ length c.args.problem.now.names = c.len-labels.ensures.len ∙ ap length c.names.ensures.names in
    let images : c.as_slice-3.result.now ≡ map (number_among (all_but c.args.label (length c.args.problem.now.names))) (count_from 0 (length c.args.problem.now.names)) =
    c.as_slice-3.ensures.value ∙ c.numbers_among-images.ensures ∙ (λ i. map (number_among ((c.as_slice.ensures.value ∙ c.all_but-stay.ensures ∙ ap (all_but c.args.label) n) i)) (count_from 0 (n i))) in
    subst (AllByRecursion (λ image. image < MAX_LABELS)) (sym images)
    (without-below c.args.label (length c.args.problem.now.names) MAX_LABELS (covered-first c.args.problem.now c.args.label c.requires).0 c.names.ensures.problem.names.few)

pub renumbered_without-requires-clause-built : goal.renumbered_without-requires-clause-built
renumbered_without-requires-clause-built c =
    let n : c.len-labels.result ≡ length c.args.problem.now.names = c.len-labels.ensures.len ∙ ap length c.names.ensures.names in
    let stay : c.as_slice-2.result.now ≡ all_but c.args.label (length c.args.problem.now.names) = c.as_slice-2.ensures.value ∙ c.all_but-stay.ensures ∙ ap (all_but c.args.label) n in
    let images : c.as_slice-3.result.now ≡ map (number_among (all_but c.args.label (length c.args.problem.now.names))) (count_from 0 (length c.args.problem.now.names)) =
    c.as_slice-3.ensures.value ∙ c.numbers_among-images.ensures ∙ (λ i. map (number_among ((c.as_slice.ensures.value ∙ c.all_but-stay.ensures ∙ ap (all_but c.args.label) n) i)) (count_from 0 (n i))) in
    built-along (all_but c.args.label (length c.args.problem.now.names)) c.as_slice-2.result.now
    (map (number_among (all_but c.args.label (length c.args.problem.now.names))) (count_from 0 (length c.args.problem.now.names))) c.as_slice-3.result.now
    (without c.args.label c.args.problem.now) (without c.args.label c.args.problem.now) stay images refl
    (without-built c.args.problem.now c.names.ensures.problem c.args.label c.requires)

pub returns : goal.returns
returns c =
    let n : c.len-labels.result ≡ length c.args.problem.now.names = c.len-labels.ensures.len ∙ ap length c.names.ensures.names in
    let stay : c.as_slice-2.result.now ≡ all_but c.args.label (length c.args.problem.now.names) = c.as_slice-2.ensures.value ∙ c.all_but-stay.ensures ∙ ap (all_but c.args.label) n in
    let images : c.as_slice-3.result.now ≡ map (number_among (all_but c.args.label (length c.args.problem.now.names))) (count_from 0 (length c.args.problem.now.names)) =
    c.as_slice-3.ensures.value ∙ c.numbers_among-images.ensures ∙ (λ i. map (number_among ((c.as_slice.ensures.value ∙ c.all_but-stay.ensures ∙ ap (all_but c.args.label) n) i)) (count_from 0 (n i))) in
    let whole : renumbered c.as_slice-2.result.now c.as_slice-3.result.now (without c.args.label c.args.problem.now) ≡ named_without c.args.label c.args.problem.now =
    λ i. renumbered (stay i) (images i) (without c.args.label c.args.problem.now) in
    subst (λ p. IfOk c.renumbered_without.result (λ rest. rest ≡ p)) whole c.renumbered_without.ensures
