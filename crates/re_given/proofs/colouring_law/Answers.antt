use Rattle.re_given.proofs.Colourings.{colouring_unavoidable}
use Rattle.re_given.proofs.colouring_law.Goals as goal

pub returns : goal.returns
returns c = colouring_unavoidable
