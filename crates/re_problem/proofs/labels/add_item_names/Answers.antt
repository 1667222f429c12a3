use Rattle.std.proofs.Common.{◌≡◌, ◌≤◌, ◌<◌, ◌++◌, ◌∙◌, ap, is_some, length, rules, subst, sym}
use Rattle.re_problem.specs.Labels.{names_or_none, text_names}
use Rattle.re_problem.proofs.WordLemmas.{found_item}
use Rattle.re_labels.specs.ListSets.{list_set}
use Rattle.re_labels.specs.declared.name_list.NamesFault.TheVariants.{TooMany}
use Rattle.re_labels.specs.declared.TheConstants.{MAX_LABELS}
use Rattle.std.specs.Prelude.{IsErrOf, OnOk}
use Rattle.re_problem.proofs.labels.add_item_names.Goals as goal

pub slice_bounds-word-end : goal.slice_bounds-word-end
slice_bounds-word-end c =
    let found = found_item c.args.line.now c.args.item.now c.requires in
    let ordered : c.args.item.now.from ≤ c.args.item.now.to = found.ordered in
    let within : c.args.item.now.to ≤ length c.args.line.now = found.within in
    search rules

pub names_into-requires : goal.names_into-requires
names_into-requires c =
    let found = found_item c.args.line.now c.args.item.now c.requires in
    ap is_some (c.labels_text.ensures found.text.0.power found.text.0 (c.base_text.ensures found.text.0 found.text.1))

pub returns-clause-ok : goal.returns-clause-ok
returns-clause-ok c =
    let found = found_item c.args.line.now c.args.item.now c.requires in
    subst (λ names. OnOk c.names_into.result (c.names_into.new.names ≡ list_set (c.args.names.now ++ names)))
    (ap names_or_none (c.labels_text.ensures found.text.0.power found.text.0 (c.base_text.ensures found.text.0 found.text.1)) ∙ sym (ap text_names found.text.1))
    c.names_into.ensures.ok

pub returns-clause-many : goal.returns-clause-many
returns-clause-many c =
    let found = found_item c.args.line.now c.args.item.now c.requires in
    subst (λ names. IsErrOf c.names_into.result TooMany → MAX_LABELS < length (list_set (c.args.names.now ++ names)))
    (ap names_or_none (c.labels_text.ensures found.text.0.power found.text.0 (c.base_text.ensures found.text.0 found.text.1)) ∙ sym (ap text_names found.text.1))
    c.names_into.ensures.many
