use Rattle.std.proofs.Common.{length}
use Rattle.re_why.proofs.map_witness.+all_becoming.Given as goal

abbrev pub decreases-all_becoming : goal.decreases-all_becoming
decreases-all_becoming l = length l.labels.now
