use Rattle.std.proofs.Common.{◌≡◌, ◌∙◌, ◌<◌, ap, length, subst}
use Rattle.std.specs.Prelude.{◌↔◌}
use Rattle.re_labels.specs.Sets.{IsIn}
use Rattle.re_problem.specs.NamedProblems.{unnamed}
use Rattle.re_flexible.proofs.Trims.{one_apart, whole_is}
use Rattle.re_flexible.proofs.trimming.trimmed_whole.Goals as goal

pub trimmed_parts-requires-clause-apart : goal.trimmed_parts-requires-clause-apart
trimmed_parts-requires-clause-apart c = one_apart c.labels_below.result c.one_set.result.items c.one_set.ensures.one

pub returns-clause-whole : goal.returns-clause-whole
returns-clause-whole c =
    let count : c.len.result ≡ length c.args.problem.now.names = c.len.ensures.len ∙ ap length c.names.ensures.names in
    whole_is (unnamed c.args.problem.now) c.names.ensures.problem.problem c.labels_below.result c.one_set.result.items c.trimmed_parts.result.items
    (λ x. subst (λ n. IsIn x c.labels_below.result ↔ (x < n)) count (c.labels_below.ensures x)) c.one_set.ensures.one c.trimmed_parts.ensures.trimmed
