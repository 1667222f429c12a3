use Rattle.std.proofs.Common.{◌≡◌, ◌<◌, ◌∙◌, ap, subst, arith, length, get_or, []}
use Rattle.re_labels.proofs.RowCalls.{read_within}
use Rattle.re_labels.proofs.Membership.{AllByRecursion-from_contains}
use Rattle.re_labels.specs.Sets.{IsIn}
use Rattle.re_boxes.proofs.strength.Strength.up.Goals as goal

pub returns-clause-set : goal.returns-clause-set
returns-clause-set c =
    let s = c.args.self.now in
    let inside : c.args.label < length c.deref.result.now = omega (arith, ap length c.deref.ensures.0, s.count, c.requires) in
    let set : c.index-deref-label.result ≡ get_or s.ups.items c.args.label [] =
    c.index-deref-label.is ∙ read_within c.deref.result.now c.args.label c.index-deref-label.result [] inside ∙ ap (λ l. get_or l c.args.label []) c.deref.ensures.0 in
    (c.number-number.ensures.set.0, AllByRecursion-from_contains (λ x. x < s.labels) c.index-deref-label.result (λ y i. s.below c.args.label y c.requires (subst (IsIn y) set i)))
