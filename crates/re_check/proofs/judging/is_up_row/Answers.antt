use Rattle.std.proofs.Common.{◌∙◌, ap, sym, subst, length, rules}
use Rattle.std.specs.Prelude.{IsTrue, ◌↔◌}
use Rattle.std.specs.List.{AllByRecursion}
use Rattle.re_boxes.proofs.Grown.{grown_law}
use Rattle.re_boxes.specs.Boxes.{IsUp}
use Rattle.re_labels.proofs.Membership.{AllByRecursion-weaker}
use Rattle.re_labels.specs.Sets.{IsLabelSet}
use Rattle.re_check.proofs.Judged.{up_row}
use Rattle.re_check.proofs.Walks.{told_by}
use Rattle.re_boxes.proofs.BoxesOfRows.{maximal_is_up}
use Rattle.re_boxes.proofs.UpSets.{labels_up}
use Rattle.re_boxes.specs.Choosing.{AreGoodChoices}
use Rattle.re_boxes.specs.HeldStrength.{ups_in}
use Rattle.re_check.proofs.judging.is_up_row.Goals as goal
use Rattle.re_labels.proofs.Tests.{not_told}

pub returns-then-sets-degree : goal.returns-then-sets-degree
returns-then-sets-degree c = λ held.
    let three = (grown_law c.args.constraint.now c.args.strength.now.labels c.args.row.now).0 held in
    c.if-sets-degree.true (ap length c.sets-sets.ensures.sets ∙ three.0.count ∙ sym c.degree.ensures.degree)

pub returns-then-not-are_below : goal.returns-then-not-are_below
returns-then-not-are_below c = λ held.
    let n = c.args.strength.now.labels in
    let three = (grown_law c.args.constraint.now n c.args.row.now).0 held in
    not_told c.are_below.result c.are_below.ensures c.if-not-are_below.true
    (subst (AllByRecursion (IsLabelSet n)) (sym c.sets-sets.ensures.sets) (AllByRecursion-weaker _ (IsLabelSet n) (λ s a. a.0) c.args.row.now three.0.sets))

pub returns-then-not-are_up : goal.returns-then-not-are_up
returns-then-not-are_up c = λ held.
    let s = c.args.strength.now in
    not_told c.are_up.result c.are_up.ensures c.if-not-are_up.true (subst (AllByRecursion (IsUp (ups_in s.ups.items))) (sym c.sets-sets.ensures.sets)
    (maximal_is_up c.args.constraint.now (ups_in s.ups.items) s.labels c.requires (labels_up s.ups.items s.labels s.count s.below) c.args.row.now held))

pub returns : goal.returns
returns c =
    let n = c.args.strength.now.labels in
    let told : IsTrue c.is_none.result ↔ AreGoodChoices c.args.constraint.now c.sets-sets.result.now = search rules in
    let good = subst (λ r. IsTrue c.is_none.result ↔ AreGoodChoices c.args.constraint.now r) c.sets-sets.ensures.sets told in
    told_by c.is_none.result good
    (up_row c.args.constraint.now (ups_in c.args.strength.now.ups.items) n c.args.row.now c.sets-sets.ensures.row
    (sym (ap length c.sets-sets.ensures.sets) ∙ c.if-sets-degree.false ∙ c.degree.ensures.degree)
    (subst (AllByRecursion (IsLabelSet n)) c.sets-sets.ensures.sets (c.are_below.ensures.0 c.if-not-are_below.false))
    (subst (AllByRecursion (IsUp (ups_in c.args.strength.now.ups.items))) c.sets-sets.ensures.sets (c.are_up.ensures.0 c.if-not-are_up.false)))
    (λ bad held. bad ((grown_law c.args.constraint.now n c.args.row.now).0 held).1.choice)
