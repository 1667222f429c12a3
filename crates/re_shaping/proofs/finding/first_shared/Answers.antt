use Rattle.std.proofs.Common.{◌≡◌, ◌+◌, ◌<◌, false, drop, eqb, ap, arith, ◌∙◌, sym, subst, inl, inr, length, get_or, None, Some}
use Rattle.std.specs.List.{list_any}
use Rattle.std.proofs.lemmas.Bool.{false≢true}
use Rattle.re_labels.proofs.Before.{three_ways}
use Rattle.re_labels.proofs.Tests.{below-cases}
use Rattle.re_labels.specs.Sets.{has}
use Rattle.re_problem.proofs.FirstFound.{label-here, label-none}
use Rattle.re_shaping.specs.Tries.{first_shared}
use Rattle.re_shaping.proofs.Coding.{later_found}
use Rattle.re_shaping.proofs.Trying.{behind_whole}
use Rattle.re_shaping.proofs.finding.first_shared.Goals as goal

pub loop-label-init : goal.loop-label-init
loop-label-init c = record { apart = λ x y at before below same. omega (arith, at); passed = λ x at. absurd (omega (arith, at)) }

pub loop-label-preserved : goal.loop-label-preserved
loop-label-preserved c = record {
  apart = λ x y at before below same. elim (below-cases x c.loop-label.label at) [
    | inl earlier ↦ c.loop-label.invariant.apart x y earlier before below same
    | inr now ↦ false≢true (
        sym c.if-contains.false ∙ c.contains.ensures.value
        ∙ later_found c.all-all.result.now c.loop-label.label y (subst (λ z. z < y) now before) below (ap (λ z. get_or c.all-all.result.now z 0) (sym now) ∙ same))
  ];
  passed = λ x at. elim (below-cases x c.loop-label.label at) [
    | inl earlier ↦ c.loop-label.invariant.passed x earlier
    | inr now ↦ subst (λ z. has (drop (z + 1) c.all-all.result.now) (get_or c.all-all.result.now z 0) ≡ false) (sym now)
        (ap (list_any (λ y. eqb y (get_or c.all-all.result.now c.loop-label.label 0))) (sym (behind_whole c.all-all.result.now c.loop-label.label)) ∙ sym c.contains.ensures.value ∙ c.if-contains.false)
  ];
}

pub returns-clause-none : goal.returns-clause-none
returns-clause-none c = λ x y lx ly same.
    let whole = c.all-all.ensures.all in
    let n : length c.all-all.result.now ≡ length c.args.colours.now = ap length whole in
    let held : get_or c.all-all.result.now x 0 ≡ get_or c.all-all.result.now y 0 = ap (λ l. get_or l x 0) whole ∙ same ∙ sym (ap (λ l. get_or l y 0) whole) in
    elim (three_ways x y) [
      | inl low ↦ absurd (c.loop-label.invariant.apart x y (omega (arith, n, c.loop-label-test.false)) low (omega (arith, n)) held)
      | inr (inl e) ↦ e
      | inr (inr high) ↦ absurd (c.loop-label.invariant.apart y x (omega (arith, n, c.loop-label-test.false)) high (omega (arith, n)) (sym held))
    ]

pub returns-clause-first : goal.returns-clause-first
unfolding first_shared
returns-clause-first c =
    subst (λ l. None ≡ first_shared l) c.all-all.ensures.all
    (sym (label-none (λ x. has (drop (x + 1) c.all-all.result.now) (get_or c.all-all.result.now x 0)) (length c.all-all.result.now) (λ k l. c.loop-label.invariant.passed k (omega (arith, c.loop-label-test.false)))))

pub returns-then-contains-clause-first : goal.returns-then-contains-clause-first
unfolding first_shared
returns-then-contains-clause-first c =
    subst (λ l. Some c.loop-label.label ≡ first_shared l) c.all-all.ensures.all
    (sym (label-here (λ x. has (drop (x + 1) c.all-all.result.now) (get_or c.all-all.result.now x 0)) (length c.all-all.result.now) c.loop-label.label c.loop-label-test.true c.loop-label.invariant.passed
    (ap (list_any (λ y. eqb y (get_or c.all-all.result.now c.loop-label.label 0))) (sym (behind_whole c.all-all.result.now c.loop-label.label)) ∙ sym c.contains.ensures.value ∙ c.if-contains.true)))
