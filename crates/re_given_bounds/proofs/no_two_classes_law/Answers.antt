use Rattle.re_given_bounds.proofs.ClassMeaning.{no_two_classes}
use Rattle.re_given_bounds.proofs.no_two_classes_law.Goals as goal

pub returns : goal.returns
returns c = no_two_classes
