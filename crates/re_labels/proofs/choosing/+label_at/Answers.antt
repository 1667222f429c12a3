use Rattle.std.proofs.Common.{sym, subst, arith}
use Rattle.re_labels.proofs.LeastLabels.{later-label, later-there}
use Rattle.re_labels.proofs.Numbers.{IsLabelSet-filter}
use Rattle.re_labels.specs.Sets.{IsLabelSet}
use Rattle.re_labels.proofs.choosing.+label_at.Goals as goal
use Rattle.re_labels.specs.declared.TheConstants.{MAX_LABELS}

pub label_at-requires : goal.label_at-requires
label_at-requires t c =
    let rest : IsLabelSet MAX_LABELS c.remove.result = subst (IsLabelSet MAX_LABELS) (sym c.remove.ensures) (IsLabelSet-filter _ MAX_LABELS c.args.set c.requires.set) in
    (omega (arith, c.decreases, c.if-index-eq0.false), (rest, later-there c.args.set c.remove.result c.in-Some.label c.args.index c.requires.set.0 (sym c.in-Some.ensures) c.if-index-eq0.false c.remove.ensures c.requires.there))

pub returns-clause-label : goal.returns-clause-label
returns-clause-label t c =
    later-label c.args.set c.remove.result c.in-Some.label c.args.index c.label_at.result c.requires.set.0 (sym c.in-Some.ensures) c.if-index-eq0.false c.remove.ensures c.label_at.ensures.label
