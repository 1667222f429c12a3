use Rattle.re_net.proofs.RunSteps.{passive_gets}
use Rattle.re_net.proofs.run_laws.passive_law.Goals as goal

pub returns : goal.returns
returns c =
    λ problem algorithm tree bound messages v solves is_tree numbered active passive side has all. passive_gets problem algorithm tree bound messages v is_tree all solves numbered active passive side has
