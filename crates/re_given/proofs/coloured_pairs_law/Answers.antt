use Rattle.re_given.proofs.ColouredPairs.{pairs_unavoidable}
use Rattle.re_given.proofs.coloured_pairs_law.Goals as goal

pub returns : goal.returns
returns c = pairs_unavoidable
