use Rattle.std.proofs.Common.{◌<◌, ◌∙◌, sym, subst, arith}
use borrow.Author.Count.{below_more}
use Rattle.std.proofs.lemmas.Bool.{false≢true}
use Rattle.re_labels.proofs.Membership.{AllByRecursion-contains}
use Rattle.re_labels.proofs.Sets.{IsIn-has, IsWithin-within, has-IsIn, within-IsWithin}
use Rattle.re_labels.specs.Sets.{IsIn, IsWithin}
use Rattle.re_boxes.proofs.Walks.{always, never}
use Rattle.re_boxes.specs.HeldStrength.{ups_in}
use Rattle.re_check.proofs.judging.is_up.Goals.{else-has-via-then-has+else-not-within, else-has-via-else-has}
use Rattle.re_check.proofs.judging.is_up.Goals as goal

pub returns-then-not-within : goal.returns-then-not-within
returns-then-not-within c = never (λ up.
    false≢true (sym c.if-not-within.true ∙ c.within.ensures
    ∙ IsWithin-within c.up.result c.args.set (subst (λ s. IsWithin s c.args.set) (sym c.up.ensures.up) (up c.loop-label.label (has-IsIn c.args.set c.loop-label.label (sym c.has.ensures ∙ c.if-has.true))))))

pub loop-label-preserved : goal.loop-label-preserved
loop-label-preserved c =
    let label = c.loop-label.label in
    below_more (λ x. IsIn x c.args.set → IsWithin (ups_in c.args.strength.now.ups.items x) c.args.set) label c.loop-label.invariant (elim c.else-has.branch [
      | else-has-via-then-has+else-not-within w ↦ λ here. subst (λ s. IsWithin s c.args.set) w.up.ensures.up (within-IsWithin w.up.result c.args.set (sym w.within.ensures ∙ w.if-not-within.false))
      | else-has-via-else-has w ↦ λ here. absurd (false≢true (sym w.if-has.false ∙ c.has.ensures ∙ IsIn-has c.args.set label here))
    ])

pub returns : goal.returns
returns c =
    let n = c.args.strength.now.labels in
    let past = c.loop-label-test.false in
    always (λ x here.
    let below : x < n = AllByRecursion-contains (λ z. z < n) c.args.set x c.requires.1 here in
    c.loop-label.invariant x (omega (arith, below, past)) here)
