use Rattle.std.proofs.Common.{◌*◌, ap, length, ◌∙◌}
use Rattle.std.specs.Prelude.{nat_eq}
use Rattle.re_given_bounds.proofs.LabelPlaces.{told_by_count}
use Rattle.re_labels.specs.declared.TheConstants.{MAX_LABELS}
use Rattle.re_given_bounds.proofs.telling.tells_config.Goals as goal

pub returns : goal.returns
returns c =
    let places = c.len.result * c.degree-degree.result in
    told_by_count MAX_LABELS c.args.constraint.now c.degree-degree.ensures.constraint c.labels-labels.result places (nat_eq c.count-count.result places) c.count-count.ensures.set c.labels-labels.ensures
    (ap (λ n. n * c.degree-degree.result) c.len.ensures.len ∙ ap (λ d. length c.args.constraint.now.configs * d) c.degree-degree.ensures.degree) (ap (λ n. nat_eq n places) c.count-count.ensures.count)
