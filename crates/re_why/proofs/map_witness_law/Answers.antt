use Rattle.re_why.proofs.Maps.{map_witness_law}
use Rattle.re_why.proofs.map_witness_law.Goals as goal

pub returns : goal.returns
returns c = map_witness_law
