use Rattle.std.proofs.Common.{◌≡◌, ◌<◌, ◌∙◌, ◌++◌, [], Err, ap, arith, length, subst}
use Rattle.re_labels.proofs.Rearranging.{length-Rearranged}
use Rattle.re_labels.proofs.Sorting.{AllByRecursion-Rearranged}
use Rattle.re_labels.specs.ListSets.{list_set}
use Rattle.re_labels.specs.Sets.{IsLabelSet}
use Rattle.re_problem.specs.Walks.{spelled_from}
use Rattle.re_problem.proofs.Walks.{all_walked, spelled_in_any_order}
use Rattle.re_labels.specs.declared.constraint_table.InsertFault.TheVariants.{TooManyConfigurations}
use Rattle.re_problem.proofs.spelling.spell_each.Goals as goal
use Rattle.re_labels.specs.declared.constraint_table.TheConstants.{MAX_CONFIGURATIONS}
use Rattle.re_labels.specs.declared.TheConstants.{MAX_LABELS}

pub walk-requires-clause-degree : goal.walk-requires-clause-degree
walk-requires-clause-degree c =
    let value = ap length c.as_slice.ensures.value in
    let count = length-Rearranged c.grouped-row.ensures in
    let degree = c.requires.degree in
    omega arith

pub returns-clause-ok : goal.returns-clause-ok
returns-clause-ok c =
    c.in-Ok.ensures.ok ∙ ap (λ row. list_set (c.args.constraint.now.configs ++ spelled_from c.empty.result 0 row [])) c.as_slice.ensures.value
    ∙ all_walked c.args.constraint.now.configs c.empty.result c.grouped-row.result.items (AllByRecursion-Rearranged (IsLabelSet MAX_LABELS) c.grouped-row.ensures c.requires.sets)
    ∙ spelled_in_any_order c.args.constraint.now.configs c.args.sets.now c.grouped-row.result.items c.grouped-row.ensures

pub returns-in-Err-clause-many : goal.returns-in-Err-clause-many
returns-in-Err-clause-many c = λ many.
    let is : c.in-Err.fault ≡ TooManyConfigurations = cc in
    subst (λ configs. MAX_CONFIGURATIONS < length configs)
    (ap (λ row. list_set (c.args.constraint.now.configs ++ spelled_from c.empty.result 0 row [])) c.as_slice.ensures.value
    ∙ all_walked c.args.constraint.now.configs c.empty.result c.grouped-row.result.items (AllByRecursion-Rearranged (IsLabelSet MAX_LABELS) c.grouped-row.ensures c.requires.sets)
    ∙ spelled_in_any_order c.args.constraint.now.configs c.args.sets.now c.grouped-row.result.items c.grouped-row.ensures)
    (c.in-Err.ensures.many (ap Err is))
