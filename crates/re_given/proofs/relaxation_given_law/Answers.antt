use Rattle.re_given.proofs.MappingGiven.{SolvableGiven-relaxed}
use Rattle.re_given.proofs.relaxation_given_law.Goals as goal

pub returns : goal.returns
returns c = SolvableGiven-relaxed
