use Rattle.std.proofs.Common.{◌∙◌, sym, ap, subst}
use Rattle.re_choice.proofs.Beginning.{found_ports, other_length}
use Rattle.re_choice.specs.FirstChoice.{IsDrawn, first_behind}
use Rattle.re_labels.proofs.Patterns.{others-are, parted}
use Rattle.re_labels.specs.PortLabels.{port_labels}
use Rattle.re_choice.proofs.choice.first_choice.Goals as goal
use Rattle.re_labels.specs.declared.TheConstants.{MAX_LABELS}

pub returns-then-sets-degree : goal.returns-then-sets-degree
returns-then-sets-degree c = sym (other_length MAX_LABELS c.args.constraint.now c.args.sets.now c.degree.ensures.constraint (λ same. c.if-sets-degree.true (same ∙ sym c.degree.ensures.degree)))

pub returns-then-draw : goal.returns-then-draw
returns-then-draw c =
    let whole = parted c.args.sets.now _ c.first-item.result c.in-len1-up.len_at_least c.first-item.is (others-are c.args.sets.now) in
    c.new.ensures ∙ ap port_labels c.as_slice.ensures.value
    ∙ found_ports MAX_LABELS c.args.constraint.now c.args.sets.now c.new-drawn.result.items c.draw.new.drawn.items c.draw.result c.degree.ensures.constraint c.if-draw.true c.new-drawn.ensures
    (subst (λ sets. IsDrawn (first_behind c.args.constraint.now c.new-drawn.result.items sets) c.new-drawn.result.items c.draw.result c.draw.new.drawn.items) whole c.draw.ensures)
