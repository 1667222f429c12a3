use Rattle.re_classes.proofs.WorkedClasses.{sinkless_class}
use Rattle.re_classes.proofs.sinkless_class_law.Goals as goal

pub returns : goal.returns
returns c = sinkless_class
