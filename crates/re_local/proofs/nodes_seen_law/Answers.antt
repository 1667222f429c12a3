use Rattle.re_local.proofs.NoRoom.{all_nodes}
use Rattle.re_local.proofs.nodes_seen_law.Goals as goal

pub returns : goal.returns
returns c = all_nodes
