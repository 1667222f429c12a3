use Rattle.std.proofs.Common.{◌≡◌, ◌<◌, refl, ap, sym, ◌∙◌, subst, arith, length}
use Rattle.std.specs.List.{AllByRecursion}
use Rattle.std.proofs.lemmas.Bool.{false≢true}
use Rattle.re_labels.proofs.Patterns.{others-are, parted}
use Rattle.re_labels.proofs.Numbers.{IsLabelSet-filter}
use Rattle.re_labels.specs.Sets.{IsLabelSet}
use Rattle.re_labels.specs.Configs.{sorted}
use Rattle.re_labels.proofs.SaidChoices.{popped-is}
use Rattle.re_boxes.proofs.DrawnChoices.{bad_last, bad_more, found-has, good_last, none_behind, rest_tells, without_label-fewer}
use Rattle.re_boxes.specs.Choosing.{AreGoodBehind, IsBadBehind}
use Rattle.re_boxes.proofs.strength_choosing.+is_bad_behind.Goals as goal
use Rattle.re_labels.specs.declared.TheConstants.{MAX_LABELS}

pub returns-in_default : goal.returns-in_default
returns-in_default t c = (none_behind c.args.constraint.now c.args.drawn.now.items c.args.first c.args.others.now c.in_default.ensures, refl)

pub returns-then-not-contains_near : goal.returns-then-not-contains_near
returns-then-not-contains_near t c =
    let has = found-has c.args.constraint.now c.push.new.self.items c.from_labels.result c.contains_near.result c.contains_near.ensures (c.from_labels.ensures ∙ ap sorted c.as_slice.ensures.value) in
    bad_last c.args.constraint.now c.args.drawn.now.items c.push.new.self.items c.args.first c.args.others.now c.in-Some.label c.in-Some.ensures.0 c.push.ensures.items c.in_default-others.len_below (λ h. false≢true (sym c.if-not-contains_near.true ∙ has.1 h))

pub is_bad_behind-requires : goal.is_bad_behind-requires
is_bad_behind-requires t c =
    let back : c.pop.new.self.items ≡ c.args.drawn.now.items = popped-is c.args.drawn.now.items c.push.new.self.items c.pop.new.self.items c.in-Some.label c.push.ensures.items c.pop.ensures.rest in
    let count = ap length back in
    let below = subst (AllByRecursion (λ label. label < MAX_LABELS)) (sym back) c.requires.drawn_below in
    let rest : IsLabelSet MAX_LABELS c.remove.result = subst (IsLabelSet MAX_LABELS) (sym c.remove.ensures) (IsLabelSet-filter _ MAX_LABELS c.args.first c.requires.first_set) in (
      omega (arith, c.decreases, ap length c.remove.ensures, without_label-fewer c.args.first c.in-Some.label c.in-Some.ensures.0),
      (omega (arith, count, c.requires.two), (omega (arith, count, c.requires.six), (below, (rest, c.requires.other_sets)))),
    )

pub returns-in_default-others : goal.returns-in_default-others
returns-in_default-others t c =
    let back : c.pop.new.self.items ≡ c.args.drawn.now.items = popped-is c.args.drawn.now.items c.push.new.self.items c.pop.new.self.items c.in-Some.label c.push.ensures.items c.pop.ensures.rest in
    let has = found-has c.args.constraint.now c.push.new.self.items c.from_labels.result c.contains_near.result c.contains_near.ensures (c.from_labels.ensures ∙ ap sorted c.as_slice.ensures.value) in
    rest_tells c.args.constraint.now c.args.drawn.now.items c.push.new.self.items c.args.first c.args.others.now c.in-Some.label c.in-Some.ensures.0 c.push.ensures.items
    c.pop.new.self.items c.remove.result c.is_bad_behind.new.drawn.items c.is_bad_behind.result back c.remove.ensures
    (good_last c.args.constraint.now c.push.new.self.items c.args.others.now c.in_default-others.len_below (has.0 c.if-not-contains_near.false)) c.is_bad_behind.ensures

pub returns-then-is_bad_behind : goal.returns-then-is_bad_behind
returns-then-is_bad_behind t c =
    let whole = parted c.args.others.now _ c.next-item.result c.in-len1-up.len_at_least c.next-item.is (others-are c.args.others.now) in
    bad_more c.args.constraint.now c.args.drawn.now.items c.push.new.self.items c.args.first c.args.others.now c.in-Some.label c.in-Some.ensures.0 c.push.ensures.items
    c.is_bad_behind-2.new.drawn.items (subst (λ s. IsBadBehind c.args.constraint.now c.push.new.self.items s c.is_bad_behind-2.new.drawn.items) whole c.if-is_bad_behind.ensures)

pub is_bad_behind-requires-3 : goal.is_bad_behind-requires-3
is_bad_behind-requires-3 t c =
    let told : AreGoodBehind c.args.constraint.now c.push.new.self.items _ × (c.is_bad_behind-2.new.drawn.items ≡ c.push.new.self.items) = c.if-is_bad_behind.ensures in
    let back : c.pop-2.new.self.items ≡ c.args.drawn.now.items = popped-is c.args.drawn.now.items c.is_bad_behind-2.new.drawn.items c.pop-2.new.self.items c.in-Some.label (told.1 ∙ c.push.ensures.items) c.pop-2.ensures.rest in
    let count = ap length back in
    let below = subst (AllByRecursion (λ label. label < MAX_LABELS)) (sym back) c.requires.drawn_below in
    let rest : IsLabelSet MAX_LABELS c.remove-2.result = subst (IsLabelSet MAX_LABELS) (sym c.remove-2.ensures) (IsLabelSet-filter _ MAX_LABELS c.args.first c.requires.first_set) in (
      omega (arith, c.decreases, ap length c.remove-2.ensures, without_label-fewer c.args.first c.in-Some.label c.in-Some.ensures.0),
      (omega (arith, count, c.requires.two), (omega (arith, count, c.requires.six), (below, (rest, c.requires.other_sets)))),
    )

pub returns : goal.returns
returns t c =
    let whole = parted c.args.others.now _ c.next-item.result c.in-len1-up.len_at_least c.next-item.is (others-are c.args.others.now) in
    let told : AreGoodBehind c.args.constraint.now c.push.new.self.items _ × (c.is_bad_behind-2.new.drawn.items ≡ c.push.new.self.items) = c.if-is_bad_behind.ensures in
    let back : c.pop-2.new.self.items ≡ c.args.drawn.now.items = popped-is c.args.drawn.now.items c.is_bad_behind-2.new.drawn.items c.pop-2.new.self.items c.in-Some.label (told.1 ∙ c.push.ensures.items) c.pop-2.ensures.rest in
    rest_tells c.args.constraint.now c.args.drawn.now.items c.push.new.self.items c.args.first c.args.others.now c.in-Some.label c.in-Some.ensures.0 c.push.ensures.items
    c.pop-2.new.self.items c.remove-2.result c.is_bad_behind-3.new.drawn.items c.is_bad_behind-3.result back c.remove-2.ensures
    (subst (AreGoodBehind c.args.constraint.now c.push.new.self.items) whole told.0) c.is_bad_behind-3.ensures
