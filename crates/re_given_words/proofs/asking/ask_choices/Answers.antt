use Rattle.std.proofs.Common.{◌+◌, ◌*◌, length, arith, subst, sym}
use Rattle.re_given_words.proofs.Asked.{read}
use Rattle.re_given_words.specs.Asking.{IsTried}
use Rattle.re_given_words.proofs.asking.ask_choices.Goals as goal

pub loop-choice-preserved : goal.loop-choice-preserved
loop-choice-preserved c = record {
  clauses = λ values all satisfied.
      c.in_ok-ask_choice.ensures values
      (subst (λ first. IsTried values c.args.labels first c.numbers.result.now c.args.orders.now) (sym c.loop-choice.invariant.next)
      (subst (λ sets. IsTried values c.args.labels (c.args.first + c.loop-choice.choice-index * length c.args.orders.now) sets c.args.orders.now)
      (read c.args.choices.now c.loop-choice.choice-index c.choice-item.result c.numbers.result.now c.loop-choice-test.true c.choice-item.is c.numbers.ensures.numbers) (all c.loop-choice.choice-index c.loop-choice-test.true)))
      (c.loop-choice.invariant.clauses values all satisfied);
  next = omega (arith, c.loop-choice.invariant.next);
  few = omega (arith, c.if-next-gt-MAX_VARIABLES.false);
}
