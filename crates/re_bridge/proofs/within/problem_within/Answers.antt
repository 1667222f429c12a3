use Rattle.std.proofs.Common.{◌≡◌, ap, length, map, subst, sym, ◌∙◌}
use Rattle.std.specs.Prelude.{IfOk}
use Rattle.re_bridge.proofs.WithinLabels.{IsHeld, held-active, held-below, held-built, held-passive, held-stay, held-whole, images-set}
use Rattle.re_bridge.specs.Reductions.{constraint_within, image_set}
use Rattle.re_changes.specs.Renumbering.{number_among}
use Rattle.re_labels.specs.Lists.{count_from}
use Rattle.re_labels.specs.Sets.{IsLabelSet}
use Rattle.re_bridge.proofs.within.problem_within.Goals as goal

pub labels_of-stay-requires-clause-labels : goal.labels_of-stay-requires-clause-labels
labels_of-stay-requires-clause-labels c =
    subst (λ n. IsLabelSet n c.image_set-labels.result) (sym (c.len-count.ensures.len ∙ ap length c.names-names.ensures.names))
    (subst (IsLabelSet (length c.args.problem.now.names)) (sym c.image_set-labels.ensures) (images-set c.args.problem.now c.names-names.ensures.problem c.args.images.now c.requires))

pub renumbered-requires-clause-stay : goal.renumbered-requires-clause-stay
renumbered-requires-clause-stay c =
    let set = c.image_set-labels.ensures in
    let n : c.len-count.result ≡ length c.args.problem.now.names = c.len-count.ensures.len ∙ ap length c.names-names.ensures.names in
    let first : c.as_slice.result.now ≡ image_set c.args.images.now = c.as_slice.ensures.value ∙ c.labels_of-stay.ensures ∙ set in
    let held : IsHeld c.args.problem.now c.args.images.now c.names-names.result.now c.as_slice-2.result.now c.as_slice-3.result.now c.in_ok-active.active c.in_ok-passive.passive = record {
      names_are = c.names-names.ensures.names;
      stay_is = c.as_slice-2.ensures.value ∙ c.labels_of-stay.ensures ∙ set;
      new_are = c.as_slice-3.ensures.value ∙ c.numbers_among-numbers.ensures ∙ (λ i. map (number_among (first i)) (count_from 0 (n i)));
      active_is = c.in_ok-active.ensures ∙ (λ i. constraint_within (set i) (c.active.ensures.active i));
      passive_is = c.in_ok-passive.ensures ∙ (λ i. constraint_within (set i) (c.passive.ensures.passive i));
    } in
    held-stay c.args.problem.now c.args.images.now c.names-names.result.now c.as_slice-2.result.now c.as_slice-3.result.now c.in_ok-active.active c.in_ok-passive.passive c.names-names.ensures.problem c.requires held

pub renumbered-requires-clause-active_known : goal.renumbered-requires-clause-active_known
renumbered-requires-clause-active_known c =
    let set = c.image_set-labels.ensures in
    let n : c.len-count.result ≡ length c.args.problem.now.names = c.len-count.ensures.len ∙ ap length c.names-names.ensures.names in
    let first : c.as_slice.result.now ≡ image_set c.args.images.now = c.as_slice.ensures.value ∙ c.labels_of-stay.ensures ∙ set in
    let held : IsHeld c.args.problem.now c.args.images.now c.names-names.result.now c.as_slice-2.result.now c.as_slice-3.result.now c.in_ok-active.active c.in_ok-passive.passive = record {
      names_are = c.names-names.ensures.names;
      stay_is = c.as_slice-2.ensures.value ∙ c.labels_of-stay.ensures ∙ set;
      new_are = c.as_slice-3.ensures.value ∙ c.numbers_among-numbers.ensures ∙ (λ i. map (number_among (first i)) (count_from 0 (n i)));
      active_is = c.in_ok-active.ensures ∙ (λ i. constraint_within (set i) (c.active.ensures.active i));
      passive_is = c.in_ok-passive.ensures ∙ (λ i. constraint_within (set i) (c.passive.ensures.passive i));
    } in
    held-active c.args.problem.now c.args.images.now c.names-names.result.now c.as_slice-2.result.now c.as_slice-3.result.now c.in_ok-active.active c.in_ok-passive.passive c.names-names.ensures.problem c.requires held

pub renumbered-requires-clause-passive_known : goal.renumbered-requires-clause-passive_known
renumbered-requires-clause-passive_known c =
    let set = c.image_set-labels.ensures in
    let n : c.len-count.result ≡ length c.args.problem.now.names = c.len-count.ensures.len ∙ ap length c.names-names.ensures.names in
    let first : c.as_slice.result.now ≡ image_set c.args.images.now = c.as_slice.ensures.value ∙ c.labels_of-stay.ensures ∙ set in
    let held : IsHeld c.args.problem.now c.args.images.now c.names-names.result.now c.as_slice-2.result.now c.as_slice-3.result.now c.in_ok-active.active c.in_ok-passive.passive = record {
      names_are = c.names-names.ensures.names;
      stay_is = c.as_slice-2.ensures.value ∙ c.labels_of-stay.ensures ∙ set;
      new_are = c.as_slice-3.ensures.value ∙ c.numbers_among-numbers.ensures ∙ (λ i. map (number_among (first i)) (count_from 0 (n i)));
      active_is = c.in_ok-active.ensures ∙ (λ i. constraint_within (set i) (c.active.ensures.active i));
      passive_is = c.in_ok-passive.ensures ∙ (λ i. constraint_within (set i) (c.passive.ensures.passive i));
    } in
    held-passive c.args.problem.now c.args.images.now c.names-names.result.now c.as_slice-2.result.now c.as_slice-3.result.now c.in_ok-active.active c.in_ok-passive.passive c.names-names.ensures.problem c.requires held

pub renumbered-requires-clause-below : goal.renumbered-requires-clause-below
renumbered-requires-clause-below c =
    let set = c.image_set-labels.ensures in
    let n : c.len-count.result ≡ length c.args.problem.now.names = c.len-count.ensures.len ∙ ap length c.names-names.ensures.names in
    let first : c.as_slice.result.now ≡ image_set c.args.images.now = c.as_slice.ensures.value ∙ c.labels_of-stay.ensures ∙ set in
    let held : IsHeld c.args.problem.now c.args.images.now c.names-names.result.now c.as_slice-2.result.now c.as_slice-3.result.now c.in_ok-active.active c.in_ok-passive.passive = record {
      names_are = c.names-names.ensures.names;
      stay_is = c.as_slice-2.ensures.value ∙ c.labels_of-stay.ensures ∙ set;
      new_are = c.as_slice-3.ensures.value ∙ c.numbers_among-numbers.ensures ∙ (λ i. map (number_among (first i)) (count_from 0 (n i)));
      active_is = c.in_ok-active.ensures ∙ (λ i. constraint_within (set i) (c.active.ensures.active i));
      passive_is = c.in_ok-passive.ensures ∙ (λ i. constraint_within (set i) (c.passive.ensures.passive i));
    } in
    held-below c.args.problem.now c.args.images.now c.names-names.result.now c.as_slice-2.result.now c.as_slice-3.result.now c.in_ok-active.active c.in_ok-passive.passive c.names-names.ensures.problem c.requires held

pub renumbered-requires-clause-built : goal.renumbered-requires-clause-built
renumbered-requires-clause-built c =
    let set = c.image_set-labels.ensures in
    let n : c.len-count.result ≡ length c.args.problem.now.names = c.len-count.ensures.len ∙ ap length c.names-names.ensures.names in
    let first : c.as_slice.result.now ≡ image_set c.args.images.now = c.as_slice.ensures.value ∙ c.labels_of-stay.ensures ∙ set in
    let held : IsHeld c.args.problem.now c.args.images.now c.names-names.result.now c.as_slice-2.result.now c.as_slice-3.result.now c.in_ok-active.active c.in_ok-passive.passive = record {
      names_are = c.names-names.ensures.names;
      stay_is = c.as_slice-2.ensures.value ∙ c.labels_of-stay.ensures ∙ set;
      new_are = c.as_slice-3.ensures.value ∙ c.numbers_among-numbers.ensures ∙ (λ i. map (number_among (first i)) (count_from 0 (n i)));
      active_is = c.in_ok-active.ensures ∙ (λ i. constraint_within (set i) (c.active.ensures.active i));
      passive_is = c.in_ok-passive.ensures ∙ (λ i. constraint_within (set i) (c.passive.ensures.passive i));
    } in
    held-built c.args.problem.now c.args.images.now c.names-names.result.now c.as_slice-2.result.now c.as_slice-3.result.now c.in_ok-active.active c.in_ok-passive.passive c.names-names.ensures.problem c.requires held

pub returns : goal.returns
returns c =
    let set = c.image_set-labels.ensures in
    let n : c.len-count.result ≡ length c.args.problem.now.names = c.len-count.ensures.len ∙ ap length c.names-names.ensures.names in
    let first : c.as_slice.result.now ≡ image_set c.args.images.now = c.as_slice.ensures.value ∙ c.labels_of-stay.ensures ∙ set in
    let held : IsHeld c.args.problem.now c.args.images.now c.names-names.result.now c.as_slice-2.result.now c.as_slice-3.result.now c.in_ok-active.active c.in_ok-passive.passive = record {
      names_are = c.names-names.ensures.names;
      stay_is = c.as_slice-2.ensures.value ∙ c.labels_of-stay.ensures ∙ set;
      new_are = c.as_slice-3.ensures.value ∙ c.numbers_among-numbers.ensures ∙ (λ i. map (number_among (first i)) (count_from 0 (n i)));
      active_is = c.in_ok-active.ensures ∙ (λ i. constraint_within (set i) (c.active.ensures.active i));
      passive_is = c.in_ok-passive.ensures ∙ (λ i. constraint_within (set i) (c.passive.ensures.passive i));
    } in
    subst (λ p. IfOk c.renumbered.result (λ rest. rest ≡ p)) (held-whole c.args.problem.now c.args.images.now c.names-names.result.now c.as_slice-2.result.now c.as_slice-3.result.now c.in_ok-active.active c.in_ok-passive.passive c.names-names.ensures.problem c.requires held) c.renumbered.ensures
