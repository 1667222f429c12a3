use Rattle.re_greedy.proofs.Matchings.{matchings_below}
use Rattle.re_greedy.proofs.matchings_law.Goals as goal

pub returns : goal.returns
returns c = matchings_below
