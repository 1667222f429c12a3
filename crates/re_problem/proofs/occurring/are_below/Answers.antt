use Rattle.std.proofs.Common.{◌≡◌, ◌<◌, ap, arith, inl, inr, refl}
use Rattle.re_labels.proofs.Before.{three_ways}
use Rattle.re_labels.proofs.Membership.{AllByRecursion-contains}
use Rattle.re_labels.proofs.Sets.{has-IsIn}
use Rattle.re_labels.specs.Sets.{has}
use Rattle.re_problem.proofs.occurring.are_below.Goals as goal

pub loop-label-preserved : goal.loop-label-preserved
loop-label-preserved c x low high h = elim (three_ways x c.loop-label.label) [
  | inl less ↦ c.loop-label.invariant x low less h
  | inr (inl same) ↦ let here : has c.args.labels x ≡ has c.args.labels c.loop-label.label = ap (has c.args.labels) same in let no = c.if-has.false in let is = c.has.ensures in cc
  | inr (inr more) ↦ omega arith
]

pub returns : goal.returns
returns c = (
  λ _ label h.
      let small : label < 128 = AllByRecursion-contains (λ x. x < 128) c.args.labels label c.count-count.ensures.set.1 (has-IsIn c.args.labels label h) in
      elim (three_ways label c.args.names) [
        | inl less ↦ less
        | inr (inl same) ↦ absurd (c.loop-label.invariant label (omega arith) (omega (arith, c.loop-label-test.false)) h)
        | inr (inr more) ↦ absurd (c.loop-label.invariant label (omega arith) (omega (arith, c.loop-label-test.false)) h)
      ],
  λ _. refl,
)
