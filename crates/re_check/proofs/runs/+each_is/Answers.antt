use Rattle.std.proofs.Common.{◌≡◌, ◌<◌, ℕ, List, ap, refl, sym, ◌∙◌, subst, arith, length}
use Rattle.std.specs.Prelude.{IsTrue, ◌↔◌}
use Rattle.std.specs.List.{AllByRecursion}
use Rattle.re_labels.proofs.Patterns.{others-are, parted}
use Rattle.re_labels.proofs.Numbers.{IsLabelSet-filter}
use Rattle.re_labels.specs.Sets.{IsLabelSet}
use Rattle.re_labels.proofs.SaidChoices.{popped-is, rest-lighter}
use Rattle.re_labels.specs.Constraints.{Has}
use Rattle.re_check.proofs.EqualSets.{takes-again, takes-fails, takes-last, takes-more, takes-none}
use Rattle.re_check.proofs.Telling.{tells-false, tells-true}
use Rattle.re_check.specs.EqualSets.{narrowed}
use Rattle.re_check.proofs.runs.+each_is.Goals as goal
use Rattle.re_labels.specs.declared.TheConstants.{MAX_LABELS}

pub returns-in_default-clause-each : goal.returns-in_default-clause-each
returns-in_default-clause-each t c =
    tells-true _ refl (takes-none c.args.constraint.now c.args.drawn.now.items c.args.left (narrowed c.args.set c.args.left c.args.others.now) (sym c.first.ensures ∙ c.in_default.is))

pub returns-then-not-last-clause-each : goal.returns-then-not-last-clause-each
returns-then-not-last-clause-each t c =
    tells-false _ refl (takes-fails c.args.constraint.now c.args.drawn.now.items c.push.new.self.items c.args.set c.args.left c.args.others.now c.in-Some.label c.requires.left_set (sym c.in-Some.ensures) c.push.ensures.items c.is_config-last.result
    (takes-last c.args.constraint.now c.push.new.self.items c.args.set c.args.left c.args.others.now c.is_config-last.result c.in_default-others.len_below (subst (λ (labels : List ℕ). IsTrue c.is_config-last.result ↔ Has c.args.constraint.now labels) c.as_slice.ensures.value c.is_config-last.ensures))
    c.if-not-last.true)

pub each_is-requires : goal.each_is-requires
each_is-requires t c =
    let back : c.pop.new.self.items ≡ c.args.drawn.now.items = popped-is c.args.drawn.now.items c.push.new.self.items c.pop.new.self.items c.in-Some.label c.push.ensures.items c.pop.ensures.rest in
    let count = ap length back in
    let below = subst (AllByRecursion (λ label. label < MAX_LABELS)) (sym back) c.requires.drawn_below in
    let rest : IsLabelSet MAX_LABELS c.remove.result = subst (IsLabelSet MAX_LABELS) (sym c.remove.ensures) (IsLabelSet-filter _ MAX_LABELS c.args.left c.requires.left_set) in
    (omega (arith, c.decreases, ap length c.remove.ensures, rest-lighter c.args.left c.args.others.now c.in-Some.label c.requires.left_set.0 (sym c.in-Some.ensures)), (omega (arith, count, c.requires.two), (omega (arith, count, c.requires.six), (below, (rest, c.requires.other_sets)))))

pub returns-in_default-others-clause-each : goal.returns-in_default-others-clause-each
returns-in_default-others-clause-each t c =
    let back : c.pop.new.self.items ≡ c.args.drawn.now.items = popped-is c.args.drawn.now.items c.push.new.self.items c.pop.new.self.items c.in-Some.label c.push.ensures.items c.pop.ensures.rest in
    takes-more c.args.constraint.now c.args.drawn.now.items c.push.new.self.items c.args.set c.args.left c.args.others.now c.in-Some.label c.requires.left_set (sym c.in-Some.ensures) c.push.ensures.items c.is_config-last.result
    (takes-last c.args.constraint.now c.push.new.self.items c.args.set c.args.left c.args.others.now c.is_config-last.result c.in_default-others.len_below (subst (λ (labels : List ℕ). IsTrue c.is_config-last.result ↔ Has c.args.constraint.now labels) c.as_slice.ensures.value c.is_config-last.ensures))
    c.pop.new.self.items c.remove.result c.each_is.result c.if-not-last.false back c.remove.ensures c.each_is.ensures.each

pub returns-then-not-with_label-clause-each : goal.returns-then-not-with_label-clause-each
returns-then-not-with_label-clause-each t c =
    tells-false _ refl (takes-fails c.args.constraint.now c.args.drawn.now.items c.push.new.self.items c.args.set c.args.left c.args.others.now c.in-Some.label c.requires.left_set (sym c.in-Some.ensures) c.push.ensures.items c.each_is-with_label.result
    (takes-again c.args.constraint.now c.push.new.self.items c.args.set c.args.left c.next-item.result c.labels_of-given.result _ c.args.others.now c.each_is-with_label.result c.requires.other_sets
    (parted c.args.others.now _ c.next-item.result c.in-len1-up.len_at_least c.next-item.is (others-are c.args.others.now)) c.labels_of-given.ensures c.each_is-with_label.ensures.each)
    c.if-not-with_label.true)

pub each_is-requires-2 : goal.each_is-requires-2
each_is-requires-2 t c =
    let back : c.pop-2.new.self.items ≡ c.args.drawn.now.items = popped-is c.args.drawn.now.items c.each_is-with_label.new.drawn.items c.pop-2.new.self.items c.in-Some.label (c.each_is-with_label.ensures.drawn ∙ c.push.ensures.items) c.pop-2.ensures.rest in
    let count = ap length back in
    let below = subst (AllByRecursion (λ label. label < MAX_LABELS)) (sym back) c.requires.drawn_below in
    let rest : IsLabelSet MAX_LABELS c.remove-2.result = subst (IsLabelSet MAX_LABELS) (sym c.remove-2.ensures) (IsLabelSet-filter _ MAX_LABELS c.args.left c.requires.left_set) in
    (omega (arith, c.decreases, ap length c.remove-2.ensures, rest-lighter c.args.left c.args.others.now c.in-Some.label c.requires.left_set.0 (sym c.in-Some.ensures)), (omega (arith, count, c.requires.two), (omega (arith, count, c.requires.six), (below, (rest, c.requires.other_sets)))))

pub returns-clause-each : goal.returns-clause-each
returns-clause-each t c =
    let back : c.pop-2.new.self.items ≡ c.args.drawn.now.items = popped-is c.args.drawn.now.items c.each_is-with_label.new.drawn.items c.pop-2.new.self.items c.in-Some.label (c.each_is-with_label.ensures.drawn ∙ c.push.ensures.items) c.pop-2.ensures.rest in
    takes-more c.args.constraint.now c.args.drawn.now.items c.push.new.self.items c.args.set c.args.left c.args.others.now c.in-Some.label c.requires.left_set (sym c.in-Some.ensures) c.push.ensures.items c.each_is-with_label.result
    (takes-again c.args.constraint.now c.push.new.self.items c.args.set c.args.left c.next-item.result c.labels_of-given.result _ c.args.others.now c.each_is-with_label.result c.requires.other_sets
    (parted c.args.others.now _ c.next-item.result c.in-len1-up.len_at_least c.next-item.is (others-are c.args.others.now)) c.labels_of-given.ensures c.each_is-with_label.ensures.each)
    c.pop-2.new.self.items c.remove-2.result c.each_is-2.result c.if-not-with_label.false back c.remove-2.ensures c.each_is-2.ensures.each
