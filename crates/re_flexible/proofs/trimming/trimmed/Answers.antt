use Rattle.std.proofs.Common.{◌≡◌, ◌∙◌, ◌<◌, ◌≤◌, ℕ, ap, length, subst}
use Rattle.std.specs.Prelude.{◌↔◌}
use Rattle.re_labels.specs.Sets.{IsIn}
use Rattle.re_labels.specs.declared.TheConstants.{MAX_LABELS}
use Rattle.re_problem.specs.NamedProblems.{unnamed}
use Rattle.re_flexible.proofs.Trims.{trimmed_is}
use Rattle.re_flexible.proofs.trimming.trimmed.Goals as goal
use Rattle.re_flexible.specs.Relations.{Relates}

pub returns : goal.returns
returns c =
    let count : c.len.result ≡ length c.args.problem.now.names = c.len.ensures.len ∙ ap length c.names.ensures.names in
    let most : length c.args.problem.now.names ≤ MAX_LABELS = c.names.ensures.problem.names.few in
    trimmed_is (unnamed c.args.problem.now) MAX_LABELS c.labels_below.result c.image-set.result c.trimmed_whole-sets.result.items most
    (λ x. subst (λ n. IsIn x c.labels_below.result ↔ (x < n)) count (c.labels_below.ensures x)) c.trimmed_whole-sets.ensures.whole
    (λ y. subst (λ t. IsIn y c.image-set.result ↔ ((z : ℕ) × IsIn z c.labels_below.result × Relates t z y)) c.as_slice.ensures.value (c.image-set.ensures y)) c.count-count.ensures.set
