use Rattle.re_greedy.proofs.Searches.{refused_list}
use Rattle.re_greedy.proofs.judging.refused_list_law.Goals as goal

pub returns : goal.returns
returns c = refused_list
