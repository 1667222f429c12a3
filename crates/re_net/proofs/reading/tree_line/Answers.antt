use Rattle.std.proofs.Common.{◌∙◌, ap, subst, sym}
use Rattle.re_net.specs.RunReading.{Holds}
use Rattle.re_net.specs.RunTexts.{takes_join, tree_ends}
use Rattle.re_net.proofs.RestLines.{tree-filled, tree-section}
use Rattle.re_net.proofs.reading.tree_line.Goals as goal

pub returns-then-begins_section : goal.returns-then-begins_section
returns-then-begins_section c = λ bound same.
    subst (λ r. Holds bound r c.end_tree.result)
    (ap (tree_ends bound c.args.tree c.args.number) c.read_section.ensures ∙ sym (tree-section c.args.byte c.args.number bound c.args.tree c.args.line.now (sym c.begins_section.ensures.test ∙ c.if-begins_section.true)))
    (c.end_tree.ensures bound same)

pub returns : goal.returns
returns c = λ bound same.
    subst (λ r. Holds bound r c.add_node.result)
    (ap (takes_join bound c.args.tree c.args.number) c.in-Some-read_three.ensures
    ∙ sym (tree-filled c.args.byte c.args.number bound c.args.tree c.args.line.now (sym c.if-begins_section.ensures.test) (sym c.if-is_empty_line.ensures) c.in_default.ensures))
    (c.add_node.ensures bound same)
