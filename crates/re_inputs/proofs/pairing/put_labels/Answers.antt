use Rattle.std.proofs.Common.{◌≡◌, ◌∙◌, Err, ap, length}
use Rattle.re_labels.proofs.Sorting.{length-sorted}
use Rattle.re_problem.proofs.Walks.{one_config_more, one_too_many}
use Rattle.re_labels.specs.declared.constraint_table.InsertFault.TheVariants.{TooManyConfigurations}
use Rattle.re_inputs.proofs.pairing.put_labels.Goals as goal

pub insert-requires : goal.insert-requires
insert-requires c = ap length c.from_labels.ensures ∙ length-sorted c.args.labels.now ∙ c.requires.degree

pub returns-in-Ok-clause-configs : goal.returns-in-Ok-clause-configs
returns-in-Ok-clause-configs c = one_config_more c.args.constraint.now.configs c.from_labels.result _ _ c.degree-degree.ensures.constraint.ascends c.from_labels.ensures c.in-Ok.ensures.configs

pub returns-in-Err-clause-many : goal.returns-in-Err-clause-many
returns-in-Err-clause-many c = λ many.
    let is : c.in-Err.fault ≡ TooManyConfigurations = cc in
    let full = c.in-Err.ensures.full.0 (ap Err is) in
    one_too_many c.args.constraint.now.configs c.from_labels.result _ c.degree-degree.ensures.constraint.ascends c.from_labels.ensures full.0 full.1
