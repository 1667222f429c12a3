use Rattle.std.proofs.Common.{◌<◌, arith, inl, inr, subst, sym}
use Rattle.re_labels.proofs.Membership.{Contains-none}
use Rattle.re_labels.proofs.Tests.{below-cases}
use Rattle.re_labels.specs.Sets.{IsIn, with_label}
use Rattle.re_labels.proofs.Sets.{IsIn-with_label_cases, IsIn-with_label_new, IsIn-with_label_old}
use Rattle.re_flexible.proofs.trimming.labels_below.Goals as goal

pub loop-label-init : goal.loop-label-init
loop-label-init c = λ x. (λ held. absurd (Contains-none x (subst (IsIn x) c.empty-set.ensures held)), λ low. absurd (omega (arith, low)))

pub loop-label-preserved : goal.loop-label-preserved
loop-label-preserved c = λ x. (
  λ held. elim (IsIn-with_label_cases c.loop-label.set c.loop-label.label x (subst (IsIn x) c.insert-set.ensures held)) [
    | inl same ↦ omega (arith, same)
    | inr old ↦ (let low : x < c.loop-label.label = (c.loop-label.invariant x).0 old in omega (arith, low))
  ],
  λ low. subst (IsIn x) (sym c.insert-set.ensures) (elim (below-cases x c.loop-label.label low) [
    | inl less ↦ IsIn-with_label_old c.loop-label.set c.loop-label.label x ((c.loop-label.invariant x).1 less)
    | inr same ↦ subst (λ i. IsIn i (with_label c.loop-label.set c.loop-label.label)) (sym same) (IsIn-with_label_new c.loop-label.set c.loop-label.label)
  ]),
)

pub returns : goal.returns
returns c = λ x. (
  λ held. let low : x < c.loop-label.label = (c.loop-label.invariant x).0 held in let most = c.loop-label.auto.label-end in omega (arith, low, most),
  λ low. (c.loop-label.invariant x).1 (let past = c.loop-label-test.false in omega (arith, low, past)),
)
