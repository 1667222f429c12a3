use Rattle.re_why.proofs.Refuting.{degrees_refute_law}
use Rattle.re_why.proofs.degrees_refute_law.Goals as goal

pub returns : goal.returns
returns c = degrees_refute_law
