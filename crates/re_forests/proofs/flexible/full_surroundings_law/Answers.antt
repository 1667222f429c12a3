use Rattle.re_forests.proofs.TwoCases.{full_surroundings}
use Rattle.re_forests.proofs.flexible.full_surroundings_law.Goals as goal

pub returns : goal.returns
returns c = full_surroundings
