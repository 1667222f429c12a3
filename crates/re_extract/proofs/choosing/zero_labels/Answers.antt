use Rattle.std.proofs.Common.{◌∙◌, ap, get_or}
use Rattle.std.specs.Prelude.{[]}
use Rattle.re_extract.proofs.Found.{fit_at, held_labels}
use Rattle.re_problem.specs.NamedProblems.{unnamed}
use Rattle.re_labels.specs.Constraints.{Constraint}
use Rattle.re_extract.proofs.choosing.zero_labels.Goals as goal

pub returns : goal.returns
returns c =
    held_labels c.labels.result.now c.in-Some-new.labels c.in-Some-new.ensures
    ∙ (c.labels.ensures.labels
    ∙ (c.in-Some-get.ensures.config
    ∙ (ap (λ (k : Constraint). get_or k.configs c.in-Some.place []) c.active.ensures.active
    ∙ fit_at (unnamed c.args.problem.now) c.in-Some.place c.in-Some.ensures.place)))
