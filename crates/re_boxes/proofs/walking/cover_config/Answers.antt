use Rattle.std.proofs.Common.{◌≡◌, ◌<◌, ◌∙◌, map, ap, sym, subst, length}
use Rattle.std.specs.Prelude.{Contains}
use Rattle.re_labels.proofs.Sorting.{sorted_again}
use Rattle.re_labels.specs.Configs.{IsConfig}
use Rattle.re_labels.proofs.Membership.{AllByRecursion-contains}
use Rattle.re_labels.specs.Sets.{IsLabelSet}
use Rattle.std.specs.List.{AllByRecursion}
use Rattle.re_labels.specs.GoodRows.{IsGood}
use Rattle.re_boxes.proofs.RowsOfSets.{AreSets-filled}
use Rattle.re_boxes.proofs.UpSets.{up_config}
use Rattle.re_boxes.specs.HeldStrength.{ups_in}
use Rattle.re_boxes.proofs.walking.cover_config.Goals as goal
use Rattle.re_labels.specs.declared.TheConstants.{MAX_LABELS}

pub settle-requires-clause-good : goal.settle-requires-clause-good
settle-requires-clause-good g c =
    let ups = ups_in c.args.strength.now.ups.items in
    let sets : c.as_slice-sets.result.now ≡ map ups c.args.config.now = c.as_slice-sets.ensures.value ∙ c.up_sets-up.ensures.sets ∙ ap (map ups) c.labels.ensures.labels in
    let is : IsConfig c.args.constraint.now.degree MAX_LABELS c.args.config.now =
    AllByRecursion-contains (IsConfig c.args.constraint.now.degree MAX_LABELS) c.args.constraint.now.configs c.args.config.now c.degree-degree.ensures.constraint.configs c.requires.config in
    subst (IsGood c.args.constraint.now) (sym sets) (up_config c.args.constraint.now ups c.requires.strong c.args.config.now is.count
    (subst (Contains c.args.constraint.now.configs) (sym (sorted_again c.args.config.now is.ascends)) c.requires.config))

pub settle-requires-clause-sets : goal.settle-requires-clause-sets
settle-requires-clause-sets g c =
    let ups = ups_in c.args.strength.now.ups.items in
    let sets : c.as_slice-sets.result.now ≡ map ups c.args.config.now = c.as_slice-sets.ensures.value ∙ c.up_sets-up.ensures.sets ∙ ap (map ups) c.labels.ensures.labels in
    let is : IsConfig c.args.constraint.now.degree MAX_LABELS c.args.config.now =
    AllByRecursion-contains (IsConfig c.args.constraint.now.degree MAX_LABELS) c.args.constraint.now.configs c.args.config.now c.degree-degree.ensures.constraint.configs c.requires.config in
    let good = up_config c.args.constraint.now ups c.requires.strong c.args.config.now is.count
    (subst (Contains c.args.constraint.now.configs) (sym (sorted_again c.args.config.now is.ascends)) c.requires.config) in
    AreSets-filled c.args.strength.now.labels c.as_slice-sets.result.now (subst (AllByRecursion (IsLabelSet c.args.strength.now.labels)) (sym c.as_slice-sets.ensures.value) c.up_sets-up.ensures.below)
    (subst (AllByRecursion (λ s. 0 < length s)) (sym sets) good.filled)
