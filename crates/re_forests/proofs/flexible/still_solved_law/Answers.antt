use Rattle.re_forests.proofs.TwoCases.{still_solved}
use Rattle.re_forests.proofs.flexible.still_solved_law.Goals as goal

pub returns : goal.returns
returns c = still_solved
