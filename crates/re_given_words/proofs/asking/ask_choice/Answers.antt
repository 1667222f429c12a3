use Rattle.std.proofs.Common.{◌≡◌, ◌<◌, ◌+◌, ◌∙◌, ap, arith, inl, inr, subst, sym, true}
use Rattle.std.proofs.lemmas.Result.{IfOk-weaker}
use Rattle.re_clauses.specs.Clauses.{satisfies}
use Rattle.re_labels.proofs.Tests.{below-cases}
use Rattle.re_given_words.proofs.Asked.{more-push, read, satisfied-more}
use Rattle.re_given_words.specs.Asking.{AreIn, IsTried}
use Rattle.re_given_words.proofs.asking.ask_choice.Goals as goal

pub loop-at-preserved : goal.loop-at-preserved
loop-at-preserved c = record {
  clauses = λ values tried satisfied.
      c.in_ok-ask_order.ensures values (λ holds. subst (AreIn values c.args.labels c.args.sets.now)
      (read c.args.orders.now c.loop-at.at c.index-orders-at.result c.numbers.result.now c.loop-at-test.true c.index-orders-at.is c.numbers.ensures.numbers) (tried.tried c.loop-at.at c.loop-at-test.true holds))
      (c.loop-at.invariant.clauses values tried satisfied);
  some = λ values k low holds. satisfied-more values c.loop-at.some.items c.push.new.self.items c.positive.result c.in_ok-push.ensures.items (elim (below-cases k c.loop-at.at low) [
    | inl less ↦ inl (c.loop-at.invariant.some values k less holds)
    | inr same ↦ inr (c.positive.ensures values ∙ ap (λ k. values (c.args.first + k)) (sym same) ∙ holds)
  ]);
}

pub returns : goal.returns
returns c =
    IfOk-weaker c.add.result _ _ (λ _ same values tried satisfied.
    let (k, low, holds) = tried.some in
    more-push c.loop-at.clauses c.add.new.clauses c.as_slice.result.now (λ values. IsTried values c.args.labels c.args.first c.args.sets.now c.args.orders.now) same
    (λ values tried. let (k, low, holds) = tried.some in
    subst (λ literals. satisfies values literals ≡ true) (sym c.as_slice.ensures.value) (c.loop-at.invariant.some values k (let less : k < c.loop-at.at = omega (arith, low, c.loop-at-test.false) in less) holds))
    values tried (c.loop-at.invariant.clauses values tried satisfied)) c.add.ensures
