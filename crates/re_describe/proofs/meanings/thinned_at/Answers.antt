use Rattle.std.proofs.Common.{refl, sym, subst, not, eqb}
use Rattle.re_labels.proofs.Numbers.{IsLabelSet-filter}
use Rattle.re_labels.proofs.Tests.{not_told}
use Rattle.re_labels.specs.Sets.{IsIn, IsLabelSet}
use Rattle.re_boxes.specs.HeldStrength.{ups_in}
use Rattle.re_describe.specs.Meanings.{IsAbove}
use Rattle.re_describe.proofs.Thinning.{alone_below, of_rest, rest_stays, stays_above}
use Rattle.re_describe.proofs.meanings.thinned_at.Goals as goal

pub is_above-requires-clause-set : goal.is_above-requires-clause-set
is_above-requires-clause-set c =
    subst (IsLabelSet c.args.strength.now.labels) (sym c.remove-others.ensures) (IsLabelSet-filter (λ y. not (eqb y c.args.label)) c.args.strength.now.labels c.args.set c.requires.set)

pub returns-then-is_above-clause-set : goal.returns-then-is_above-clause-set
returns-then-is_above-clause-set c =
    subst (IsLabelSet c.args.strength.now.labels) (sym c.remove-others.ensures) (IsLabelSet-filter (λ y. not (eqb y c.args.label)) c.args.strength.now.labels c.args.set c.requires.set)

pub returns-then-is_above-clause-within : goal.returns-then-is_above-clause-within
returns-then-is_above-clause-within c = λ x held. (of_rest c.args.set x c.args.label (subst (IsIn x) c.remove-others.ensures held)).0

pub returns-then-is_above-clause-whole : goal.returns-then-is_above-clause-whole
returns-then-is_above-clause-whole c =
    let ups = ups_in c.args.strength.now.ups.items in
    let above = subst (λ s. IsAbove ups s c.args.label) c.remove-others.ensures (c.is_above.ensures.0 c.if-is_above.true) in
    λ y held. subst (λ s. IsAbove ups s y) (sym c.remove-others.ensures) (stays_above ups c.args.set c.args.label c.requires.goes_on above y held)

pub returns-then-is_above-clause-apart : goal.returns-then-is_above-clause-apart
returns-then-is_above-clause-apart c = λ x held other up. absurd ((of_rest c.args.set c.args.label c.args.label (subst (IsIn c.args.label) c.remove-others.ensures other)).1 refl)

pub returns-else-is_above-clause-apart : goal.returns-else-is_above-clause-apart
returns-else-is_above-clause-apart c =
    let ups = ups_in c.args.strength.now.ups.items in
    λ x held other up. alone_below ups c.args.set c.args.label
    (λ above. not_told c.is_above.result c.is_above.ensures c.if-is_above.false (subst (λ s. IsAbove ups s c.args.label) (sym c.remove-others.ensures) above)) x held up

pub returns-then-is_above-clause-stays : goal.returns-then-is_above-clause-stays
returns-then-is_above-clause-stays c = λ x held other. subst (IsIn x) (sym c.remove-others.ensures) (rest_stays c.args.set c.args.label x held other)
