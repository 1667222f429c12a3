use Rattle.std.proofs.Common.{◌≡◌, ◌<◌, ◌∙◌, ap, sym, subst, arith, not, filter, length, get_or, []}
use Rattle.re_labels.proofs.RowCalls.{read_within}
use Rattle.re_labels.proofs.Membership.{AllByRecursion-contains}
use Rattle.re_labels.proofs.Numbers.{IsLabelSet-filter, IsLabelSet-with_label}
use Rattle.re_labels.proofs.Sets.{IsIn-has}
use Rattle.re_labels.specs.Sets.{IsIn, IsLabelSet, has}
use Rattle.re_boxes.proofs.DrawnChoices.{filter-fewer}
use Rattle.re_boxes.proofs.LabelsAbove.{meet-filter}
use Rattle.re_boxes.proofs.UpSets.{weakest_more}
use Rattle.re_boxes.specs.HeldStrength.{ups_in}
use Rattle.re_boxes.proofs.strength.Strength.+weakest.Goals as goal

pub weakest-requires : goal.weakest-requires
weakest-requires t c =
    let s = c.args.self.now in
    let x = c.in-Some.label in
    let ups = ups_in s.ups.items in
    let here : IsIn x c.args.set = c.in-Some.ensures.0 in
    let below : x < s.labels = AllByRecursion-contains (λ z. z < s.labels) c.args.set x c.requires.set.1 here in
    let row : c.index-deref-label.result ≡ get_or s.past.items x [] = c.index-deref-label.is
    ∙ read_within c.deref.result.now x c.index-deref-label.result [] (omega (arith, below, s.beside, ap length c.deref.ensures.0)) ∙ ap (λ l. get_or l x []) c.deref.ensures.0 in
    let rest : c.meet-rest.result ≡ filter (λ z. not (has (ups x) z)) c.args.set = c.meet-rest.ensures ∙ meet-filter s.labels (λ z. not (has (ups x) z)) c.args.set c.index-deref-label.result c.requires.set.1
    (λ z l. ap (λ v. has v z) row ∙ s.passes x z below l) in
    let less : length c.meet-rest.result < length c.args.set = (let f = filter-fewer (λ z. not (has (ups x) z)) c.args.set x here (ap not (IsIn-has (ups x) x (c.requires.strong x))) in omega (arith, f, ap length rest)) in
    (omega (arith, c.decreases, less), (c.requires.strong, subst (IsLabelSet s.labels) (sym rest) (IsLabelSet-filter _ s.labels c.args.set c.requires.set)))

pub returns-clause-labels : goal.returns-clause-labels
returns-clause-labels t c =
    let s = c.args.self.now in
    let x = c.in-Some.label in
    let below : x < s.labels = AllByRecursion-contains (λ z. z < s.labels) c.args.set x c.requires.set.1 c.in-Some.ensures.0 in
    subst (IsLabelSet s.labels) (sym c.insert.ensures) (IsLabelSet-with_label s.labels c.weakest.result x below c.weakest.ensures.labels)

pub returns-clause-within : goal.returns-clause-within
returns-clause-within t c =
    let s = c.args.self.now in
    let x = c.in-Some.label in
    let ups = ups_in s.ups.items in
    let here : IsIn x c.args.set = c.in-Some.ensures.0 in
    let below : x < s.labels = AllByRecursion-contains (λ z. z < s.labels) c.args.set x c.requires.set.1 here in
    let row : c.index-deref-label.result ≡ get_or s.past.items x [] = c.index-deref-label.is
    ∙ read_within c.deref.result.now x c.index-deref-label.result [] (omega (arith, below, s.beside, ap length c.deref.ensures.0)) ∙ ap (λ l. get_or l x []) c.deref.ensures.0 in
    let rest : c.meet-rest.result ≡ filter (λ z. not (has (ups x) z)) c.args.set = c.meet-rest.ensures ∙ meet-filter s.labels (λ z. not (has (ups x) z)) c.args.set c.index-deref-label.result c.requires.set.1
    (λ z l. ap (λ v. has v z) row ∙ s.passes x z below l) in
    (weakest_more ups s.labels c.args.set c.meet-rest.result c.weakest.result c.insert.result x here rest c.weakest.ensures.within c.weakest.ensures.whole c.insert.ensures).0

pub returns-clause-whole : goal.returns-clause-whole
returns-clause-whole t c =
    let s = c.args.self.now in
    let x = c.in-Some.label in
    let ups = ups_in s.ups.items in
    let here : IsIn x c.args.set = c.in-Some.ensures.0 in
    let below : x < s.labels = AllByRecursion-contains (λ z. z < s.labels) c.args.set x c.requires.set.1 here in
    let row : c.index-deref-label.result ≡ get_or s.past.items x [] = c.index-deref-label.is
    ∙ read_within c.deref.result.now x c.index-deref-label.result [] (omega (arith, below, s.beside, ap length c.deref.ensures.0)) ∙ ap (λ l. get_or l x []) c.deref.ensures.0 in
    let rest : c.meet-rest.result ≡ filter (λ z. not (has (ups x) z)) c.args.set = c.meet-rest.ensures ∙ meet-filter s.labels (λ z. not (has (ups x) z)) c.args.set c.index-deref-label.result c.requires.set.1
    (λ z l. ap (λ v. has v z) row ∙ s.passes x z below l) in
    (weakest_more ups s.labels c.args.set c.meet-rest.result c.weakest.result c.insert.result x here rest c.weakest.ensures.within c.weakest.ensures.whole c.insert.ensures).1
