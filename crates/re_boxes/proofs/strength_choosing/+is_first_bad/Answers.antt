use Rattle.std.proofs.Common.{◌≡◌, true, not, ap, ◌∙◌, subst}
use Rattle.std.proofs.lemmas.Bool.{false≢true}
use Rattle.re_labels.proofs.Patterns.{others-are, parted}
use Rattle.re_labels.specs.Configs.{sorted}
use Rattle.re_boxes.proofs.DrawnChoices.{bad_more, bad_none, found-has}
use Rattle.re_boxes.specs.Choosing.{IsBadBehind}
use Rattle.re_boxes.proofs.strength_choosing.+is_first_bad.Goals as goal

pub returns-in_default : goal.returns-in_default
returns-in_default t c told =
    let has = found-has c.args.constraint.now c.args.drawn.now.items c.from_labels.result c.contains.result c.contains.ensures (c.from_labels.ensures ∙ ap sorted c.as_slice.ensures.value) in
    bad_none c.args.constraint.now c.args.drawn.now.items c.args.sets.now c.in_default.len_below (λ h. false≢true (subst (λ b. not b ≡ true) (has.1 h) told))

pub returns : goal.returns
returns t c told =
    let whole = parted c.args.sets.now _ c.first-item.result c.in-len1-up.len_at_least c.first-item.is (others-are c.args.sets.now) in
    subst (λ s. IsBadBehind c.args.constraint.now c.args.drawn.now.items s c.is_first_bad.new.drawn.items) whole
    (bad_more c.args.constraint.now c.args.drawn.now.items c.push.new.self.items c.first-item.result _ c.in-Some.label c.in-Some.ensures.0 c.push.ensures.items c.is_first_bad.new.drawn.items (c.is_first_bad.ensures told))
