use Rattle.re_cover.proofs.GivenOutputs.{given_outputs_law as law}
use Rattle.re_cover.proofs.given_outputs_law.Goals as goal

pub returns : goal.returns
returns c = law
