use Rattle.re_classes.proofs.IdentifiedViews.{unnoticed_names}
use Rattle.re_classes.proofs.random.unnoticed_names_law.Goals as goal

pub returns : goal.returns
returns c = unnoticed_names
