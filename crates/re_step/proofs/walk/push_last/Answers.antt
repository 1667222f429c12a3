use Rattle.re_step.proofs.WalkLemmas.{added_lasts}
use Rattle.re_step.proofs.walk.push_last.Goals as goal
use Rattle.re_labels.specs.declared.constraint_table.TheConstants.{MAX_CONFIGURATIONS}
use Rattle.std.proofs.Common.{rules, ◌<◌, ◌∙◌, length, subst}

pub returns-in-Ok-clause-found : goal.returns-in-Ok-clause-found
returns-in-Ok-clause-found c =
    c.in-Ok.ensures.configs ∙ added_lasts c.args.labels c.args.sets.now c.args.next c.holders.result c.requires.places c.holders.ensures c.args.first.now c.args.found.now.configs

pub returns-in-Err-TooManyConfigurations-clause-many :
    goal.returns-in-Err-TooManyConfigurations-clause-many
returns-in-Err-TooManyConfigurations-clause-many c = λ _.
    subst (λ configs. MAX_CONFIGURATIONS < length configs)
    (added_lasts c.args.labels c.args.sets.now c.args.next c.holders.result c.requires.places c.holders.ensures c.args.first.now c.args.found.now.configs) (c.in-Err-TooManyConfigurations.ensures.full (search rules))
