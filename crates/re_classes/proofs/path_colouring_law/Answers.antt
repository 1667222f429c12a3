use Rattle.re_classes.proofs.WorkedClasses.{path_colouring}
use Rattle.re_classes.proofs.path_colouring_law.Goals as goal

pub returns : goal.returns
returns c = path_colouring
