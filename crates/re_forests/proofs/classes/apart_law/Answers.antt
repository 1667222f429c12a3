use Rattle.re_forests.proofs.ApartForests.{apart}
use Rattle.re_forests.proofs.classes.apart_law.Goals as goal

pub returns : goal.returns
returns c = apart
