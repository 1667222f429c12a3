use Rattle.std.proofs.Common.{◌≡◌, ◌∙◌, ◌<◌, ◌≤◌, [], arith, get_or, inl, inr, length, subst, sym}
use Rattle.std.proofs.lemmas.Bool.{cases_lt, false≢true}
use Rattle.re_labels.proofs.Sets.{IsIn-has, has-IsIn}
use Rattle.re_labels.proofs.Tests.{below-cases}
use Rattle.re_labels.specs.Sets.{IsIn}
use Rattle.re_labels.proofs.Placing.{read_at}
use Rattle.re_flexible.proofs.Building.{related_low}
use Rattle.re_flexible.proofs.levels.first_set.Goals as goal
use Rattle.re_flexible.specs.Relations.{Relates}

pub returns-then-has : goal.returns-then-has
returns-then-has c =
    let n = c.loop-label.label in
    let low : n < length c.args.sets.now = (let below = c.loop-label-test.true in let same = c.requires in omega (arith, below, same)) in
    let at : c.index-sets-label.result ≡ get_or c.args.sets.now n [] = read_at c.args.sets.now n c.index-sets-label.result low c.index-sets-label.is in (
      n,
      subst (IsIn n) at (has-IsIn c.index-sets-label.result n (sym c.has.ensures ∙ c.if-has.true)),
      at,
      λ y self. elim (cases_lt y n) [ inl less ↦ absurd (c.loop-label.invariant y less self) | inr more ↦ more ],
    )

pub loop-label-preserved : goal.loop-label-preserved
loop-label-preserved c = λ x low self.
    let n = c.loop-label.label in
    let here : n < length c.args.sets.now = (let below = c.loop-label-test.true in let same = c.requires in omega (arith, below, same)) in
    let at : c.index-sets-label.result ≡ get_or c.args.sets.now n [] = read_at c.args.sets.now n c.index-sets-label.result here c.index-sets-label.is in
    elim (below-cases x n low) [
      | inl less ↦ c.loop-label.invariant x less self
      | inr same ↦ false≢true (sym (sym c.has.ensures ∙ c.if-has.false) ∙ IsIn-has c.index-sets-label.result n (subst (IsIn n) (sym at) (subst (λ i. Relates c.args.sets.now i i) same self)))
    ]

pub returns : goal.returns
returns c = λ x self. c.loop-label.invariant x
    (let low : x < length c.args.sets.now = related_low c.args.sets.now x x self in let past = c.loop-label-test.false in let same = c.requires in omega (arith, low, past, same)) self
