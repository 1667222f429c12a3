use Rattle.std.proofs.Common.{◌≡◌, ◌<◌, ◌↔◌, ◌∷◌, ℕ, not, subst}
use Rattle.re_labels.specs.Sets.{IsIn, has}
use Rattle.re_labels.specs.Constraints.{Has}
use Rattle.re_step.proofs.LeftLabels.{whole_told}
use Rattle.re_step.proofs.completing.all_completing.Goals as goal

pub returns-clause-right : goal.returns-clause-right
returns-clause-right c = λ x below. subst (λ r. IsIn x c.filtered.result ↔ Has c.args.constraint.now (x ∷ r)) c.requires.rest
    (whole_told (λ y. Has c.args.constraint.now (y ∷ c.args.rest.now)) c.args.labels c.outside-whole.result c.filtered.result
    (subst (λ s. (z : ℕ) → z < c.args.labels → has c.outside-whole.result z ≡ not (has s z)) c.empty.ensures c.outside-whole.ensures.below) c.filtered.ensures x below)
