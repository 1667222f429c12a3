use Rattle.re_given.proofs.Colourings.{shorter_bound_coloured}
use Rattle.re_given.proofs.shorter_bound_coloured_law.Goals as goal

pub returns : goal.returns
returns c = λ first last k n c T is steps not_zero few enough many l h. shorter_bound_coloured is steps not_zero few enough many T l h
