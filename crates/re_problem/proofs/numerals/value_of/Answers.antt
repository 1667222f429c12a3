use Rattle.std.proofs.Common.{arith, refl}
use Rattle.re_problem.proofs.Digits.{next_digit, next_value}
use Rattle.re_problem.proofs.numerals.value_of.Goals as goal

pub overflow_mul-value : goal.overflow_mul-value
overflow_mul-value c = omega (arith, (next_digit c.args.digits.now c.loop-digit.digit-index _ c.loop-digit.value c.requires.digits c.requires.few c.loop-digit-test.true refl c.loop-digit.invariant.below).1)

pub overflow_add-value : goal.overflow_add-value
overflow_add-value c = omega (arith, (next_digit c.args.digits.now c.loop-digit.digit-index c.from.result c.loop-digit.value c.requires.digits c.requires.few c.loop-digit-test.true c.from.ensures c.loop-digit.invariant.below).1)

pub loop-digit-preserved : goal.loop-digit-preserved
loop-digit-preserved c = record {
  below = (next_digit c.args.digits.now c.loop-digit.digit-index c.from.result c.loop-digit.value c.requires.digits c.requires.few c.loop-digit-test.true c.from.ensures c.loop-digit.invariant.below).0;
  value = next_value c.args.digits.now c.loop-digit.digit-index c.from.result c.loop-digit.value c.loop-digit-test.true c.from.ensures c.loop-digit.invariant.value;
}
