use Rattle.std.proofs.Common.{◌<◌, ◌≤◌, ◌∙◌, sym, arith}
use Rattle.re_labels.proofs.Membership.{AllByRecursion-contains}
use Rattle.re_labels.specs.Sets.{union}
use Rattle.re_boxes.specs.HeldStrength.{ups_in}
use Rattle.re_boxes.proofs.LabelsAbove.{next_above, up_next, up_none}
use Rattle.re_boxes.proofs.boxing.+up_above.Goals as goal
use Rattle.re_labels.specs.declared.TheConstants.{MAX_LABELS}

pub up_above-requires : goal.up_above-requires
up_above-requires t c =
    let a = next_above c.args.set c.args.label c.in-Some.next c.requires.set.0 (sym c.after.ensures ∙ c.in-Some.is) in
    let below : c.in-Some.next < c.args.strength.now.labels = AllByRecursion-contains (λ x. x < c.args.strength.now.labels) c.args.set c.in-Some.next c.requires.set.1 a.held in
    let few : c.args.strength.now.labels ≤ MAX_LABELS = c.args.strength.now.few in
    (omega (arith, c.decreases, a.above, below, few), (c.requires.set, omega (arith, below, few)))

pub up-requires : goal.up-requires
up-requires t c =
    let a = next_above c.args.set c.args.label c.in-Some.next c.requires.set.0 (sym c.after.ensures ∙ c.in-Some.is) in
    AllByRecursion-contains (λ x. x < c.args.strength.now.labels) c.args.set c.in-Some.next c.requires.set.1 a.held

pub returns-in-None : goal.returns-in-None
returns-in-None t c = c.empty.ensures ∙ up_none (ups_in c.args.strength.now.ups.items) c.args.set c.args.label (sym c.after.ensures ∙ c.in-None.is)

pub returns-in-Some : goal.returns-in-Some
returns-in-Some t c =
    let a = next_above c.args.set c.args.label c.in-Some.next c.requires.set.0 (sym c.after.ensures ∙ c.in-Some.is) in
    c.union.ensures ∙ (λ i. union (c.up_above.ensures i) (c.up.ensures.up i)) ∙ up_next (ups_in c.args.strength.now.ups.items) c.args.set c.args.label c.in-Some.next a
