use Rattle.std.proofs.Common.{◌+◌, ◌∙◌, ap, length, sym}
use Rattle.std.specs.Prelude.{◌==◌}
use Rattle.re_cert.specs.Entries.{label_items}
use Rattle.re_graph_words.specs.GivenInputs.{labels_from, node_labels}
use Rattle.re_graph_words.proofs.LabelSteps.{labels-empty, labels-fault, labels-on, labels-past, labels-section}
use Rattle.re_graph_words.proofs.labels.add_labels.Goals as goal

pub returns-then-is_empty_line : goal.returns-then-is_empty_line
returns-then-is_empty_line c = λ lines. labels-empty c.args.input.now c.args.nodes c.args.number c.args.labels.now.items c.args.line.now lines (sym c.is_empty_line.ensures ∙ c.if-is_empty_line.true)

pub returns-then-begins_section : goal.returns-then-begins_section
returns-then-begins_section c = λ lines.
    labels-section c.args.input.now c.args.nodes c.args.number c.args.labels.now.items c.args.line.now lines (sym c.is_empty_line.ensures ∙ c.if-is_empty_line.false) (sym c.begins_section.ensures.test ∙ c.if-begins_section.true)

pub returns-then-is_full : goal.returns-then-is_full
returns-then-is_full c = λ lines.
    labels-past c.args.input.now c.args.nodes c.args.number c.args.labels.now.items c.args.line.now lines (sym c.is_empty_line.ensures ∙ c.if-is_empty_line.false) (sym c.begins_section.ensures.test ∙ c.if-begins_section.false)
    (ap (λ n. n == c.args.nodes) (ap length (sym c.as_slice.ensures.value)) ∙ sym c.is_full.ensures ∙ c.if-is_full.true)

pub returns-in-Err : goal.returns-in-Err
returns-in-Err c = λ lines.
    labels-fault c.args.input.now c.args.nodes c.args.number c.args.labels.now.items c.args.line.now lines c.in-Err.fault (sym c.is_empty_line.ensures ∙ c.if-is_empty_line.false) (sym c.begins_section.ensures.test ∙ c.if-begins_section.false)
    (ap (λ n. n == c.args.nodes) (ap length (sym c.as_slice.ensures.value)) ∙ sym c.is_full.ensures ∙ c.if-is_full.false) (sym c.node_labels.ensures ∙ c.in-Err.is)

pub returns-in-Ok-push : goal.returns-in-Ok-push
returns-in-Ok-push c = λ lines.
    labels-on c.args.input.now c.args.nodes c.args.number c.args.labels.now.items c.args.line.now lines c.in-Ok.own (sym c.is_empty_line.ensures ∙ c.if-is_empty_line.false) (sym c.begins_section.ensures.test ∙ c.if-begins_section.false)
    (ap (λ n. n == c.args.nodes) (ap length (sym c.as_slice.ensures.value)) ∙ sym c.is_full.ensures ∙ c.if-is_full.false) (sym c.node_labels.ensures ∙ c.in-Ok.is)
    ∙ ap (λ read. labels_from c.args.input.now c.args.nodes (c.args.number + 1) read lines) (sym c.in-Ok-push.ensures.items)
