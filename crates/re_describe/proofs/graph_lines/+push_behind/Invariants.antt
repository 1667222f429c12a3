use Rattle.std.proofs.Common.{length}
use Rattle.re_describe.proofs.graph_lines.+push_behind.Given as goal

abbrev pub decreases-push_behind : goal.decreases-push_behind
decreases-push_behind l = length l.passive.now
