use Rattle.std.proofs.Common.{arith}
use Rattle.re_given_words.proofs.looking.look_ahead.Goals as goal

pub look_further-requires-clause-few : goal.look_further-requires-clause-few
look_further-requires-clause-few c = λ T low high solvable. omega (arith, low, high)
