use Rattle.std.proofs.Common.{refl, ◌<◌, ◌∙◌, sym, arith}
use Rattle.std.proofs.lemmas.Bool.{false≢true}
use Rattle.re_labels.proofs.Membership.{AllByRecursion-contains}
use Rattle.re_labels.proofs.Sets.{IsIn-has, has-IsIn}
use Rattle.re_boxes.proofs.LabelsAbove.{next_above, next_tells, nothing_above}
use Rattle.re_boxes.proofs.boxing.+has_above.Goals as goal
use Rattle.re_labels.specs.declared.TheConstants.{MAX_LABELS}

pub has-requires : goal.has-requires
has-requires t c =
    let a = next_above c.args.other c.args.label c.in-Some.next c.requires.other.0 (sym c.after.ensures ∙ c.in-Some.is) in
    AllByRecursion-contains (λ x. x < MAX_LABELS) c.args.other c.in-Some.next c.requires.other.1 a.held

pub has_above-requires : goal.has_above-requires
has_above-requires t c =
    let a = next_above c.args.other c.args.label c.in-Some.next c.requires.other.0 (sym c.after.ensures ∙ c.in-Some.is) in
    let below : c.in-Some.next < MAX_LABELS = AllByRecursion-contains (λ x. x < MAX_LABELS) c.args.other c.in-Some.next c.requires.other.1 a.held in
    (omega (arith, c.decreases, a.above, below), (c.requires.other, below))

pub returns-in-None : goal.returns-in-None
returns-in-None t c = ((λ e y i l. absurd (nothing_above c.args.other c.args.label y (sym c.after.ensures ∙ c.in-None.is) i l)), (λ all. refl))

pub returns-then-has : goal.returns-then-has
returns-then-has t c =
    let a = next_above c.args.other c.args.label c.in-Some.next c.requires.other.0 (sym c.after.ensures ∙ c.in-Some.is) in
    next_tells c.args.set c.args.other c.args.label c.in-Some.next a (has-IsIn c.args.set c.in-Some.next (sym c.has.ensures ∙ c.if-has.true)) c.has_above.result c.has_above.ensures

pub returns-else-has : goal.returns-else-has
returns-else-has t c =
    let a = next_above c.args.other c.args.label c.in-Some.next c.requires.other.0 (sym c.after.ensures ∙ c.in-Some.is) in (
      (λ e. absurd (false≢true (sym c.if-has.false ∙ e))),
      (λ all. c.has.ensures ∙ IsIn-has c.args.set c.in-Some.next (all c.in-Some.next a.held a.above)),
    )
