use Rattle.std.proofs.Common.{◌≡◌, ap, length, subst, sym, ◌∙◌}
use Rattle.std.specs.List.{AllByRecursion}
use Rattle.re_algo.specs.Constructions.{IsSeen}
use Rattle.re_labels.specs.Configs.{image_at}
use Rattle.re_labels.specs.Sets.{IsLabelSet}
use Rattle.re_problem.specs.NamedProblems.{unnamed}
use Rattle.re_step.specs.Derivations.{Derivation}
use Rattle.re_labels.specs.GoodRows.{max_rows}
use Rattle.re_shaping.proofs.FirstSteps.{step-made}
use Rattle.re_shaping.proofs.ImagesOfRows.{all_seen, row-sets}
use Rattle.re_shaping.specs.Relaxing.{row_image}
use Rattle.re_shaping.proofs.relaxing.step_of_rows.Goals as goal

pub top_images-requires-clause-sets : goal.top_images-requires-clause-sets
top_images-requires-clause-sets c =
    let rows : c.as_slice.result.now ≡ max_rows c.args.problem.now.passive (length c.args.problem.now.names) = c.as_slice.ensures.value ∙ c.requires.rows in
    subst (AllByRecursion (AllByRecursion (IsLabelSet (length c.args.images.now)))) (sym rows)
    (subst (λ n. AllByRecursion (AllByRecursion (IsLabelSet n)) (max_rows c.args.problem.now.passive (length c.args.problem.now.names))) (sym c.requires.count)
    (row-sets c.args.problem.now.passive (length c.args.problem.now.names)))

pub top_images-requires-clause-seen : goal.top_images-requires-clause-seen
top_images-requires-clause-seen c =
    let rows : c.as_slice.result.now ≡ max_rows c.args.problem.now.passive (length c.args.problem.now.names) = c.as_slice.ensures.value ∙ c.requires.rows in
    let tops : c.in_ok-derived.derived.rows ≡ max_rows c.args.relaxed.now.passive (length c.args.relaxed.now.names) = ap (λ (d : Derivation). d.rows) c.in_ok-derived.ensures.derived in
    subst (AllByRecursion (λ row. IsSeen c.in_ok-derived.derived.rows (row_image (image_at c.args.images.now) row))) (sym rows)
    (subst (λ tops. AllByRecursion (λ row. IsSeen tops (row_image (image_at c.args.images.now) row)) (max_rows c.args.problem.now.passive (length c.args.problem.now.names))) (sym tops)
    (all_seen (unnamed c.args.problem.now) (unnamed c.args.relaxed.now) (image_at c.args.images.now) c.requires.below c.requires.relaxed c.names-names.ensures.problem.problem c.names-relaxed.ensures.problem.names.few))

pub returns-clause-step : goal.returns-clause-step
returns-clause-step c =
    step-made c.args.problem.now c.args.relaxed.now (image_at c.args.images.now) c.in_ok-derived.derived c.derived.inside.problem c.args.rows.items c.as_slice.result.now c.in_ok-tops.tops.items
    c.in_ok-derived.ensures.derived (ap (λ (d : Derivation). d.problem) c.derived.view_is) c.requires.rows c.as_slice.ensures.value c.in_ok-tops.ensures
