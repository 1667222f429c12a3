use Rattle.std.proofs.Common.{◌≤◌, ◌∙◌, ap, length, rules, sym}
use Rattle.std.specs.Option.{option_and_then}
use Rattle.re_problem.specs.Items.{ItemText}
use Rattle.re_problem.specs.Labels.{labels_held}
use Rattle.re_problem.proofs.WordLemmas.{found_item}
use Rattle.re_problem.proofs.labels.item_labels.Goals as goal

pub slice_bounds-word-end : goal.slice_bounds-word-end
slice_bounds-word-end c =
    let found = found_item c.args.line.now c.args.item.now c.requires in
    let ordered : c.args.item.now.from ≤ c.args.item.now.to = found.ordered in
    let within : c.args.item.now.to ≤ length c.args.line.now = found.within in
    search rules

pub returns : goal.returns
returns c =
    let found = found_item c.args.line.now c.args.item.now c.requires in
    c.labels_in.ensures
    ∙ ap (option_and_then (labels_held c.args.names.now)) (c.labels_text.ensures found.text.0.power found.text.0 (c.base_text.ensures found.text.0 found.text.1))
    ∙ sym (ap (option_and_then (λ (text : ItemText). labels_held c.args.names.now text.names)) found.text.1)
