use Rattle.re_forests.proofs.AllSeen.{all_seen}
use Rattle.re_forests.proofs.flexible.all_seen_law.Goals as goal

pub returns : goal.returns
returns c = all_seen
