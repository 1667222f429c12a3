use Rattle.re_given.proofs.Colourings.{lower_bound_coloured}
use Rattle.re_given.proofs.lower_bound_coloured_law.Goals as goal

pub returns : goal.returns
returns c = λ first last half c T is steps not_zero enough many l h. lower_bound_coloured half is steps not_zero enough many T l h
