use Rattle.re_classes.proofs.IdentifiedViews.{certain_identified}
use Rattle.re_classes.proofs.random.certain_identified_law.Goals as goal

pub returns : goal.returns
returns c = certain_identified
