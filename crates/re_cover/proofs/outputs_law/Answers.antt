use Rattle.re_cover.proofs.Outputs.{outputs_law as law}
use Rattle.re_cover.proofs.outputs_law.Goals as goal

pub returns : goal.returns
returns c = law
