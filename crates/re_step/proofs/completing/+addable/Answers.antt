use Rattle.std.proofs.Common.{◌∷◌, ◌↔◌, ap, subst, ◌∙◌, arith, length}
use Rattle.re_labels.proofs.Patterns.{others-are, parted}
use Rattle.re_labels.specs.Sets.{IsIn}
use Rattle.re_boxes.proofs.DrawnChoices.{none_behind, without_label-fewer}
use Rattle.re_boxes.specs.Choosing.{AreGoodBehind}
use Rattle.re_step.proofs.LeftLabels.{all_left, both_told, last_told}
use Rattle.re_step.proofs.completing.+addable.Goals as goal

pub returns-in_default-least_of-clause-addable : goal.returns-in_default-least_of-clause-addable
returns-in_default-least_of-clause-addable t c = all_left (λ x. AreGoodBehind c.args.constraint.now (x ∷ c.args.drawn.now) (c.args.first ∷ c.args.others.now)) c.args.among
    (λ x. none_behind c.args.constraint.now (x ∷ c.args.drawn.now) c.args.first c.args.others.now c.in_default-least_of.ensures)

pub addable-requires : goal.addable-requires
addable-requires t c = (
  omega (arith, c.decreases, ap length c.remove.ensures, without_label-fewer c.args.first c.in-Some-least_of.label c.in-Some-least_of.ensures.0),
  (c.requires.labels, (c.completing-left.ensures.right, (c.requires.six, (c.requires.drawn_below, (λ x h. c.requires.among x ((c.completing-left.ensures.completing x).0 h).0))))),
)

pub returns-in_default-others-clause-addable : goal.returns-in_default-others-clause-addable
returns-in_default-others-clause-addable t c = both_told c.args.constraint.now c.args.drawn.now c.as_slice.result.now c.args.first c.remove.result c.args.others.now c.in-Some-least_of.label c.in-Some-least_of.ensures.0
    (c.as_slice.ensures.value ∙ c.with_last-more.ensures) c.remove.ensures c.args.among c.completing-left.result c.addable.result
    (last_told c.args.constraint.now c.as_slice.result.now c.args.others.now c.args.among c.completing-left.result c.in_default-others.len_below c.completing-left.ensures.completing) c.addable.ensures.addable

pub addable-requires-2 : goal.addable-requires-2
addable-requires-2 t c = (
  omega (arith, c.decreases, ap length c.remove-2.ensures, without_label-fewer c.args.first c.in-Some-least_of.label c.in-Some-least_of.ensures.0),
  (c.requires.labels, (c.addable-left.ensures.right, (c.requires.six, (c.requires.drawn_below, (λ x h. c.requires.among x ((c.addable-left.ensures.addable x).0 h).0))))),
)

pub returns-clause-addable : goal.returns-clause-addable
returns-clause-addable t c =
    let whole = parted c.args.others.now _ c.next-item.result c.in-len1-up.len_at_least c.next-item.is (others-are c.args.others.now) in
    both_told c.args.constraint.now c.args.drawn.now c.as_slice-2.result.now c.args.first c.remove-2.result c.args.others.now c.in-Some-least_of.label c.in-Some-least_of.ensures.0
    (c.as_slice-2.ensures.value ∙ c.with_last-more.ensures) c.remove-2.ensures c.args.among c.addable-left.result c.addable-2.result
    (λ x. subst (λ s. IsIn x c.addable-left.result ↔ (IsIn x c.args.among × AreGoodBehind c.args.constraint.now (x ∷ c.as_slice-2.result.now) s)) whole (c.addable-left.ensures.addable x)) c.addable-2.ensures.addable
