use Rattle.std.proofs.Common.{◌∙◌, sym, ap, subst, arith}
use Rattle.re_why.proofs.Beginning.{found_none, found_ports}
use Rattle.re_choice.specs.FirstChoice.{IsDrawn}
use Rattle.re_why.specs.BadChoice.{first_behind}
use Rattle.re_labels.proofs.Patterns.{others-are, parted}
use Rattle.re_labels.specs.PortLabels.{port_labels}
use Rattle.re_why.proofs.bad_choice.first_bad_choice.Goals as goal

pub returns-then-draw : goal.returns-then-draw
returns-then-draw c =
    let whole = parted c.args.sets.now _ c.first-item.result c.in-len1-up.len_at_least c.first-item.is (others-are c.args.sets.now) in
    c.new.ensures ∙ ap port_labels c.as_slice.ensures.value
    ∙ found_ports c.args.constraint.now c.args.sets.now c.new-drawn.result.items c.draw.new.drawn.items c.draw.result (omega (arith, c.requires, c.degree-degree.ensures.constraint.least)) (omega (arith, c.requires, c.degree-degree.ensures.constraint.most)) c.if-draw.true c.new-drawn.ensures
    (subst (λ sets. IsDrawn (first_behind c.args.constraint.now c.new-drawn.result.items sets) c.new-drawn.result.items c.draw.result c.draw.new.drawn.items) whole c.draw.ensures)

pub returns-else-draw : goal.returns-else-draw
returns-else-draw c =
    let whole = parted c.args.sets.now _ c.first-item.result c.in-len1-up.len_at_least c.first-item.is (others-are c.args.sets.now) in
    found_none c.args.constraint.now c.args.sets.now c.new-drawn.result.items c.draw.new.drawn.items c.draw.result c.if-draw.false c.new-drawn.ensures
    (subst (λ sets. IsDrawn (first_behind c.args.constraint.now c.new-drawn.result.items sets) c.new-drawn.result.items c.draw.result c.draw.new.drawn.items) whole c.draw.ensures)
