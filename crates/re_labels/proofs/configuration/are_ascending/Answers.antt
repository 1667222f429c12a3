use Rattle.std.proofs.Common.{arith}
use Rattle.re_labels.proofs.Sorting.{rising_adjacent}
use Rattle.re_labels.proofs.configuration.are_ascending.Goals as goal

pub returns : goal.returns
returns c _ = rising_adjacent c.args.labels.now (λ j some below. c.loop-place.invariant j (let past = c.loop-place-test.false in let end = c.loop-place.auto.place in omega arith) some)
