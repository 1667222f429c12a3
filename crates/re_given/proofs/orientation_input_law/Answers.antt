use Rattle.re_given.proofs.NamedInputs.{IsInput-oriented, IsInput-oriented_both}
use Rattle.re_given.proofs.orientation_input_law.Goals as goal

pub returns : goal.returns
returns c = λ problem is. (IsInput-oriented problem is, IsInput-oriented_both problem is)
