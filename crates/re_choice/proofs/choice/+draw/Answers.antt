use Rattle.std.proofs.Common.{◌≡◌, ◌<◌, ◌+◌, ◌∷◌, ap, sym, refl, false, ◌∙◌, subst, arith, length}
use Rattle.std.specs.List.{AllByRecursion}
use Rattle.re_choice.proofs.Beginning.{begun_found, not_begun}
use Rattle.re_choice.proofs.Drawing.{drawn_here, drawn_later}
use Rattle.re_choice.specs.FirstChoice.{IsDrawn, begins, first_behind}
use Rattle.re_labels.proofs.Patterns.{others-are, parted}
use Rattle.re_labels.proofs.Numbers.{IsLabelSet-filter}
use Rattle.re_labels.specs.Sets.{IsLabelSet}
use Rattle.re_labels.proofs.SaidChoices.{popped-is, rest-lighter}
use Rattle.re_choice.proofs.choice.+draw.Goals as goal
use Rattle.re_labels.specs.declared.TheConstants.{MAX_LABELS}
use Rattle.re_labels.specs.Constraints.{has_config}

pub draw-requires : goal.draw-requires
draw-requires t c =
    let back : c.pop.new.self.items ≡ c.args.drawn.now.items = popped-is c.args.drawn.now.items c.push.new.self.items c.pop.new.self.items c.in-Some.label c.push.ensures.items c.pop.ensures.rest in
    let below = subst (AllByRecursion (λ label. label < MAX_LABELS)) (sym back) c.requires.drawn_below in
    let rest : IsLabelSet MAX_LABELS c.remove.result = subst (IsLabelSet MAX_LABELS) (sym c.remove.ensures) (IsLabelSet-filter _ MAX_LABELS c.args.first c.requires.first_set) in
    (omega (arith, c.decreases, ap length c.remove.ensures, rest-lighter c.args.first c.args.others.now c.in-Some.label c.requires.first_set.0 (sym c.in-Some.ensures)), (ap (λ l. length l + length c.args.others.now + 1) back ∙ c.requires.degree, (below, (rest, c.requires.other_sets))))

pub returns-then-not-is_begun : goal.returns-then-not-is_begun
returns-then-not-is_begun t c =
    let back : c.pop.new.self.items ≡ c.args.drawn.now.items = popped-is c.args.drawn.now.items c.push.new.self.items c.pop.new.self.items c.in-Some.label c.push.ensures.items c.pop.ensures.rest in
    let here = not_begun (has_config c.args.constraint.now) c.push.new.self.items c.args.others.now c.is_begun.result c.if-not-is_begun.true (c.is_begun.ensures ∙ ap (λ l. begins c.args.constraint.now l c.args.others.now) c.as_slice.ensures.value) in
    let later = subst (λ l. IsDrawn (first_behind c.args.constraint.now c.pop.new.self.items (c.remove.result ∷ c.args.others.now)) l c.draw.result c.draw.new.drawn.items) back c.draw.ensures in
    drawn_later (has_config c.args.constraint.now) c.args.drawn.now.items c.push.new.self.items c.args.first c.args.others.now c.in-Some.label c.requires.first_set (sym c.in-Some.ensures) c.push.ensures.items
    c.push.new.self.items c.pop.new.self.items c.remove.result c.draw.new.drawn.items false c.draw.result refl here back c.remove.ensures c.draw.ensures

pub returns : goal.returns
returns t c =
    let whole = parted c.args.others.now _ c.next-item.result c.in-len1-up.len_at_least c.next-item.is (others-are c.args.others.now) in
    let behind = subst (λ sets. IsDrawn (first_behind c.args.constraint.now c.push.new.self.items sets) c.push.new.self.items c.draw-2.result c.draw-2.new.drawn.items) whole c.draw-2.ensures in
    let done = begun_found (has_config c.args.constraint.now) c.push.new.self.items c.args.others.now c.is_begun.result c.draw-2.result c.draw-2.new.drawn.items c.if-not-is_begun.false (c.is_begun.ensures ∙ ap (λ l. begins c.args.constraint.now l c.args.others.now) c.as_slice.ensures.value) behind in
    subst (λ r. IsDrawn (first_behind c.args.constraint.now c.args.drawn.now.items (c.args.first ∷ c.args.others.now)) c.args.drawn.now.items r c.draw-2.new.drawn.items) (sym done)
    (drawn_here (has_config c.args.constraint.now) c.args.drawn.now.items c.push.new.self.items c.args.first c.args.others.now c.in-Some.label c.requires.first_set (sym c.in-Some.ensures) c.push.ensures.items
    c.draw-2.new.drawn.items c.draw-2.result done behind)
