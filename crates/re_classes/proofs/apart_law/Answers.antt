use Rattle.re_classes.proofs.ApartClasses.{classes_apart}
use Rattle.re_classes.proofs.apart_law.Goals as goal

pub returns : goal.returns
returns c = classes_apart
