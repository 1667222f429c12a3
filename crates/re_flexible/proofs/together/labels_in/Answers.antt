use Rattle.std.proofs.Common.{◌≡◌, ◌∙◌, ◌<◌, ◌+◌, ℕ, [], arith, get_or, inl, inr, length, subst, sym}
use Rattle.std.proofs.lemmas.Bool.{false≢true}
use Rattle.re_labels.proofs.Membership.{Contains-none}
use Rattle.re_labels.proofs.Sets.{has-IsIn, IsIn-has, IsIn-with_label_cases, IsIn-with_label_new, IsIn-with_label_old}
use Rattle.re_labels.proofs.Tests.{below-cases}
use Rattle.re_labels.specs.Sets.{IsIn, with_label}
use Rattle.re_labels.proofs.Placing.{read_at}
use Rattle.re_flexible.proofs.Building.{related_low}
use Rattle.re_flexible.proofs.together.labels_in.Goals as goal
use Rattle.re_flexible.proofs.together.labels_in.Goals.{else-has, then-has}
use Rattle.re_flexible.specs.Relations.{Relates}

pub loop-label-init : goal.loop-label-init
loop-label-init c = λ x. (λ held. absurd (Contains-none x (subst (IsIn x) c.empty-labels.ensures held)), λ two. absurd (let low : x < 0 = two.0 in omega (arith, low)))

pub loop-label-preserved : goal.loop-label-preserved
loop-label-preserved c =
    let n = c.loop-label.label in
    let low : n < length c.args.sets.now = (let below = c.loop-label-test.true in let same = c.requires in omega (arith, below, same)) in
    let at : c.index-sets-label.result ≡ get_or c.args.sets.now n [] = read_at c.args.sets.now n c.index-sets-label.result low c.index-sets-label.is in
    elim c.if-has.branch [
      | then-has w ↦ λ x. (
        λ held. elim (IsIn-with_label_cases c.loop-label.labels n x (subst (IsIn x) (w.labels-is ∙ w.insert-labels.ensures) held)) [
          | inl same ↦ (omega (arith, same), subst (λ i. Relates c.args.sets.now i i) same (subst (IsIn n) at (has-IsIn c.index-sets-label.result n (sym c.has.ensures ∙ w.if-has.true))))
          | inr old ↦ (let two = (c.loop-label.invariant x).0 old in let less : x < n = two.0 in (omega (arith, less), two.1))
        ],
        λ two. subst (IsIn x) (sym (w.labels-is ∙ w.insert-labels.ensures)) (elim (below-cases x n two.0) [
          | inl less ↦ IsIn-with_label_old c.loop-label.labels n x ((c.loop-label.invariant x).1 (less, two.1))
          | inr same ↦ subst (λ i. IsIn i (with_label c.loop-label.labels n)) (sym same) (IsIn-with_label_new c.loop-label.labels n)
        ]),
      )
      | else-has w ↦ λ x. (
        λ held. let two = (c.loop-label.invariant x).0 (subst (IsIn x) w.labels-is held) in let less : x < n = two.0 in (omega (arith, less), two.1),
        λ two. subst (IsIn x) (sym w.labels-is) (elim (below-cases x n two.0) [
          | inl less ↦ (c.loop-label.invariant x).1 (less, two.1)
          | inr same ↦ absurd (false≢true (sym (sym c.has.ensures ∙ w.if-has.false) ∙ IsIn-has c.index-sets-label.result n (subst (IsIn n) (sym at) (subst (λ i. Relates c.args.sets.now i i) same two.1))))
        ]),
      )
    ]

pub returns : goal.returns
returns c = λ x. (
  λ held. ((c.loop-label.invariant x).0 held).1,
  λ self. (c.loop-label.invariant x).1 ((let low : x < length c.args.sets.now = related_low c.args.sets.now x x self in let past = c.loop-label-test.false in let same = c.requires in omega (arith, low, past, same)), self),
)
