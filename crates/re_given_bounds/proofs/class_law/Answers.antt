use Rattle.re_given_bounds.proofs.ClassMeaning.{class}
use Rattle.re_given_bounds.proofs.class_law.Goals as goal

pub returns : goal.returns
returns c = class
