use Rattle.std.proofs.Common.{◌*◌, ap, inr}
use Rattle.re_settle.proofs.never.farther_way.Goals as goal

pub relaxed_way-requires-clause-tried : goal.relaxed_way-requires-clause-tried
relaxed_way-requires-clause-tried c = inr (ap (λ n. 200 * n) c.from-nodes.ensures)
